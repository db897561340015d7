-- Reading computed on quoted texts: recovery, and the readings that look right and are not. The marked cases are the table of the crate cases.
use Prim.Native.Nat.{ℕ}
use Prim.Native.String.{String}
use mathlib.Core.Path.{◌≡◌, refl}
use mathlib.Core.List.{List, [], ◌∷◌, map}
use Rattle.wire.specs.Bytes.{Bytes, bytes}
use Rattle.wire.specs.Le.{le_bytes, le_number, le_at}
use Rattle.wire.specs.Pick.{pick}
use Rattle.identifier.specs.Byte.{lower_of}
use Rattle.identifier.specs.Forms.{snake_of}
use Rattle.identifier.specs.Order.{name_order, same_name, is_before}
use Rattle.stem.specs.Stem.{last_part, is_parent, cut, stem_of, import_name}
use Rattle.token.specs.Payload.{paragraph_of, after_paragraph, paragraphs_of, paragraph_bytes}
use Rattle.schema.specs.Ast.{Import, Declaration}
use Rattle.grammar.specs.Error.{Error}
use Rattle.grammar.specs.Reading.{Outcome, schema, errors, parse}
use Rattle.grammar.specs.Quoted.{tokens_of}

abbrev fault : ℕ → ℕ → ℕ → ℕ → Error
fault number start end found = record { number = number; range = record { start = start; end = end }; found = found }

abbrev errors_of : Outcome → List Error
errors_of (schema s) = []
errors_of (errors es) = es

-- a text and the errors of it
pub record Example : Type 0 where
  pub text : String
  pub told : List Error

abbrev example : String → List Error → Example
example text told = record { text = text; told = told }

abbrev examples : List Example
examples =
    -- recovery runs past `deleted`; a declaration's missing name ends the parse
    example "struct A { x: 3 deleted 1 1 } struct { y = 1 } struct" (fault 9 14 15 14 ∷ fault 2 37 38 15 ∷ [])
    -- recovery ends at an offending `}`; 16 goes on, 5 ends the parse
    ∷ example "struct A { x } choice B { deleted 1 1 2 1 x } struct" (fault 12 13 14 19 ∷ fault 16 36 37 0 ∷ fault 16 40 41 0 ∷ fault 5 42 43 12 ∷ [])
    -- `.` is looked at where three tokens remain
    ∷ example "struct A { x: y ." (fault 12 16 17 9 ∷ fault 5 17 17 0 ∷ [])
    ∷ example "struct A { x: y . }" (fault 9 18 19 19 ∷ [])
    ∷ example "struct A { x: 1 . z }" (fault 10 14 15 14 ∷ [])
    ∷ example "struct A { x: [Bool = 1 }" (fault 11 20 21 10 ∷ [])
    ∷ example "struct A { x = }" (fault 13 15 16 19 ∷ [])
    ∷ example "struct A { x:" (fault 9 13 13 0 ∷ fault 5 13 13 0 ∷ [])
    ∷ example "struct A { optional = 1 } choice 1" (fault 8 20 21 10 ∷ fault 3 33 34 14 ∷ [])
    ∷ example "choice B =" (fault 4 9 10 10 ∷ [])
    -- a failed import is dropped, and import reading goes on where it stopped
    ∷ example "import import 'a' as import 'b' as b 1" (fault 6 7 13 13 ∷ fault 7 21 27 13 ∷ fault 1 37 38 14 ∷ [])
    -- names are compared in snake case; after 14 the name is U+FFFD, which no other import has
    ∷ example "import 'b/op.t' import 'x' as OP import 'y' as op import '..' as _ import 'a/..' import ''"
    (fault 15 33 49 0 ∷ fault 14 67 80 0 ∷ fault 14 81 90 0 ∷ fault 15 81 90 0 ∷ [])
    -- a comment ends the list where a declaration is due
    ∷ example "import 'a'\n# b" (fault 18 11 14 0 ∷ [])
    ∷ []

examples_hold : map (λ (e : Example). errors_of (parse (tokens_of e.text))) examples ≡ map (λ (e : Example). e.told) examples
unfolding parse pick le_bytes le_number le_at lower_of snake_of name_order same_name is_before last_part is_parent cut stem_of import_name paragraph_of after_paragraph
    paragraphs_of paragraph_bytes
examples_hold = refl

abbrev import_names : Outcome → List Bytes
import_names (schema s) = map (λ (i : Import). i.name) s.imports
import_names (errors es) = []

in_snake_order : import_names (parse (tokens_of "import 'fooZ' import 'b/op.t' import 'foo_b' import 'fooA'"))
    ≡ (bytes "fooA" ∷ bytes "foo_b" ∷ bytes "fooZ" ∷ bytes "op" ∷ [])
unfolding parse pick le_bytes le_number le_at lower_of snake_of name_order same_name is_before last_part is_parent cut stem_of import_name paragraph_of after_paragraph
    paragraphs_of paragraph_bytes
in_snake_order = refl

-- the schema's comment, and those of its declarations
abbrev comments : Outcome → List (List Bytes)
comments (schema s) = s.comment ∷ map (λ (d : Declaration). d.comment) s.declarations
comments (errors es) = []

first_comment : comments (parse (tokens_of "# c\nstruct A { }")) ≡ ([] ∷ (bytes "c" ∷ []) ∷ [])
unfolding parse pick le_bytes le_number le_at lower_of snake_of name_order same_name is_before last_part is_parent cut stem_of import_name paragraph_of after_paragraph
    paragraphs_of paragraph_bytes
first_comment = refl

parted_comment : comments (parse (tokens_of "# c\n\nstruct A { }")) ≡ ((bytes "c" ∷ []) ∷ [] ∷ [])
unfolding parse pick le_bytes le_number le_at lower_of snake_of name_order same_name is_before last_part is_parent cut stem_of import_name paragraph_of after_paragraph
    paragraphs_of paragraph_bytes
parted_comment = refl
