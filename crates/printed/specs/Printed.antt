-- Document 01, "Cases to run": what typefmt prints of a token table. It prints the canonical text, or per error `E number start end found`, or
-- `R number offset`, and lends 65,536 bytes for each answer: for the schema table or error list, and for the text.
use Rattle.std.specs.Prelude.{ℕ, zero, suc, ◌+◌, ◌/◌, ◌≡◌, [], ◌++◌, leb, ltb, length, drop}
use Rattle.std.proofs.Math.Option.{Option, none, some}
use Rattle.wire.specs.Bytes.{Bytes, bytes}
use Rattle.wire.specs.Decimal.{decimal}
use Rattle.wire.specs.Le.{u16_at, u32_at}
use Rattle.wire.specs.Pick.{pick}
use Rattle.schema.specs.Ast.{Schema}
use Rattle.schema.specs.Decode.{decode_schema}
use Rattle.text.specs.Text.{text_of}
use Rattle.grammar.specs.Answer.{Answer, refusal, schema, errors, read_answer, buffer_after}

unfoldable pub spaced : ℕ → Bytes
spaced n = bytes " " ++ decimal n

-- `R number offset`
unfoldable pub refusal_line : ℕ → ℕ → Bytes
refusal_line number offset = bytes "R" ++ spaced number ++ spaced offset ++ bytes "\n"

-- `E number start end found`
unfoldable pub error_text : ℕ → ℕ → ℕ → ℕ → Bytes
error_text number start end found = bytes "E" ++ spaced number ++ spaced start ++ spaced end ++ spaced found ++ bytes "\n"

-- the line of the error whose record stands at this place of a list: the record's kind, start, end and payload
abbrev pub error_line : Bytes → ℕ → Bytes
error_line list at = error_text (u16_at list (at + 2)) (u32_at list (at + 4)) (u32_at list (at + 8)) (u16_at list (at + 12))

-- and of the n records from this place on
unfoldable pub error_lines : ℕ → Bytes → ℕ → Bytes
error_lines zero list at = []
error_lines (suc n) list at = error_line list at ++ error_lines n list (at + 14)

-- the text of a schema, where it fits: R8
abbrev pub text_printed : Option Schema → Bytes
text_printed none = refusal_line 9 0
text_printed (some s) = pick (leb (length (text_of s)) 65536) (text_of s) (refusal_line 8 0)

-- writing a schema table: R1, R9, R8
unfoldable pub schema_printed : Bytes → Bytes
schema_printed table = pick (ltb 131072 (length table)) (refusal_line 1 0) (text_printed (decode_schema table))

-- what reading answered
abbrev pub answer_printed : Answer → Bytes
answer_printed (refusal number offset) = refusal_line number offset
answer_printed (errors list) = error_lines (length list / 14) list 0
answer_printed (schema table) = schema_printed table

unfoldable pub printed : Bytes → Bytes
printed table = answer_printed (read_answer table 65536)

-- A call was lent a buffer for the schema table or error list and one for what is printed, and answered r: the length of what is printed, which
-- stands whole at the start of its buffer.
pub record Prints (table schema₀ schema₁ text₀ text₁ : Bytes) (r : ℕ) : Type 0 where
  pub schema : schema₁ ≡ buffer_after schema₀ (read_answer table 65536)
  pub size : r ≡ length (printed table)
  pub text : text₁ ≡ printed table ++ drop (length (printed table)) text₀
