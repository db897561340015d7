-- The marked cases of document 01, "Cases to run": what is asked, and what is told.
use Prim.Native.String.{String}
use Rattle.std.specs.Prelude.{List, [], ◌∷◌}
use Rattle.wire.specs.Bytes.{Bytes, bytes}
use Rattle.wire.specs.Pick.{pick}
use Rattle.identifier.specs.Forms.{snake_of, pascal_of}
use Rattle.identifier.specs.Survive.{survives as does_survive}
use Rattle.token.specs.Table.{encode_tokens}
use Rattle.grammar.specs.Quoted.{tokens_of}
use Rattle.printed.specs.Printed.{printed}

-- what typefmt prints of a text's tokens; a name's Pascal and snake form; whether a name survives printing
pub data Asked : Type 0 where
  prints pascal snake survives : String → Asked

abbrev pub told : Asked → Bytes
told (prints text) = printed (encode_tokens (tokens_of text))
told (pascal name) = pascal_of (bytes name)
told (snake name) = snake_of (bytes name)
told (survives name) = pick (does_survive (bytes name)) (bytes "yes") (bytes "no")

pub record Case : Type 0 where
  pub asked : Asked
  pub told : String

abbrev pub case : Asked → String → Case
case asked told = record { asked = asked; told = told }

abbrev pub cases : List Case
cases =
    case (prints "struct op_8d { cycles: U64 = 0 deleted 2 1 }") "struct Op8d {\n    cycles: U64 = 0\n\n    deleted 1 2\n}\n"
    ∷ case (prints "struct A { x 3 } choice B { y = 0 deleted 4 4 }") "E 12 13 14 14\nE 16 44 45 0\n"
    ∷ case (prints "struct A { x") "E 12 12 12 0\nE 5 12 12 0\n"
    ∷ case (prints "") ""
    ∷ case (prints "# one") "# one\n"
    ∷ case (prints "# one\n# two") "E 18 6 11 0\n"
    ∷ case (prints "struct A { x: y .") "E 12 16 17 9\nE 5 17 17 0\n"
    ∷ case (prints "struct A { x: y . z") "E 12 19 19 0\nE 5 19 19 0\n"
    ∷ case (prints "struct A { x deleted 1 1 }") "E 12 13 20 8\n"
    ∷ case (pascal "foo_1") "Foo1"
    ∷ case (survives "foo_1") "no"
    ∷ case (snake "HTTPPort") "h_t_t_p_port"
    ∷ []
