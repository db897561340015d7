-- Document 01, "Errors collected": an error, and the record of 14 bytes that reports it.
use Rattle.std.specs.Prelude.{ℕ, ◌<◌, List, [], ◌∷◌, ◌++◌, leb}
use Rattle.wire.specs.Bytes.{Bytes}
use Rattle.wire.specs.Le.{le_bytes}
use Rattle.wire.specs.Pick.{pick}
use Rattle.wire.specs.Record.{record_bytes}
use Rattle.token.specs.Token.{Token}
use Rattle.schema.specs.Ast.{Range}
use Rattle.grammar.specs.Place.{range_at}

pub record Error : Type 0 where
  pub number : ℕ
  pub range : Range
  pub found : ℕ

-- numbers that its record holds
pub record Narrow (e : Error) : Type 0 where
  pub number : e.number < 65536
  pub start : e.range.start < 4294967296
  pub end : e.range.end < 4294967296
  pub found : e.found < 65536

-- the kind of the first of these tokens; 0 at the list's end
abbrev pub kind_at : List Token → ℕ
kind_at [] = 0
kind_at (t ∷ ts) = t.kind

-- for 1 to 13 found is the offending token's kind; for the others it is 0
abbrev pub found_at : ℕ → List Token → ℕ
found_at number ts = pick (leb number 13) (kind_at ts) 0

-- an error at the first of these tokens, or at the list's end
abbrev pub error_at : ℕ → ℕ → List Token → Error
error_at end number ts = record { number = number; range = range_at end ts; found = found_at number ts }

-- an error whose range is a construct's
abbrev pub error_over : ℕ → Range → Error
error_over number range = record { number = number; range = range; found = 0 }

unfoldable pub error_bytes : Error → Bytes
error_bytes e = record_bytes e.number e.range.start e.range.end (le_bytes 2 e.found)

unfoldable pub errors_bytes : List Error → Bytes
errors_bytes [] = []
errors_bytes (e ∷ es) = error_bytes e ++ errors_bytes es
