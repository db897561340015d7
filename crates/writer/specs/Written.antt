-- Document 01, "Numbers that stop a call". Writing: R1, R9, R8, each with the offset 0; else the length of the text, and the text at the buffer's
-- start. A refusal changes no byte.
use Rattle.std.specs.Prelude.{ℕ, ◌≡◌, leb, ltb, length, Result, Ok, Err}
use Rattle.std.proofs.Math.Option.{Option, none, some}
use Rattle.wire.specs.Bytes.{Bytes}
use Rattle.wire.specs.Pick.{pick}
use Rattle.wire.specs.Put.{laid}
use Rattle.wire.specs.Refusal.{refused_by}
use Rattle.wire.specs.declared.Refused.{Refused}
use Rattle.wire.specs.declared.Refusal.TheVariants.{TableTooLong, NoRoom, NotASchema}
use Rattle.schema.specs.Ast.{Schema}
use Rattle.schema.specs.Decode.{decode_schema}
use Rattle.text.specs.Text.{text_of}

-- the answer to a decoded table, with `room` bytes lent
abbrev pub answer_to : ℕ → Option Schema → Result ℕ Refused
answer_to room none = Err (refused_by NotASchema)
answer_to room (some s) = pick (leb (length (text_of s)) room) (Ok (length (text_of s))) (Err (refused_by NoRoom))

abbrev pub left_by : Bytes → Option Schema → Bytes
left_by o none = o
left_by o (some s) = laid o (text_of s)

-- the answer r and the buffer o' that writing the table t into o gives
pub record Writes (t o o' : Bytes) (r : Result ℕ Refused) : Type 0 where
  pub answer : r ≡ pick (ltb 131072 (length t)) (Err (refused_by TableTooLong)) (answer_to (length o) (decode_schema t))
  pub buffer : o' ≡ pick (ltb 131072 (length t)) o (left_by o (decode_schema t))
