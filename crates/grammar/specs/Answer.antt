-- Document 01, "Numbers that stop a call": what reading a table answers, given a lent buffer, and what it leaves in the buffer. R1 to R7, then the
-- parse, then R8. A refusal changes no byte; after a success the bytes past the answer stay as they were.
use Rattle.std.specs.Prelude.{ℕ, ◌≡◌, [], ◌++◌, leb, length, drop}
use Rattle.wire.specs.Bytes.{Bytes}
use Rattle.wire.specs.Pick.{pick}
use Rattle.token.specs.Table.{Decoded, refused, tokens, decode}
use Rattle.schema.specs.Encode.{encode_schema}
use Rattle.grammar.specs.Error.{errors_bytes}
use Rattle.grammar.specs.Reading.{Outcome, parse}

-- a number with the offset of the faulty record, a schema table, or an error list
pub data Answer : Type 0 where
  refusal : ℕ → ℕ → Answer
  schema : Bytes → Answer
  errors : Bytes → Answer

abbrev pub answer_of : Outcome → Answer
answer_of (Outcome.schema s) = schema (encode_schema s)
answer_of (Outcome.errors es) = errors (errors_bytes es)

abbrev pub bytes_of : Answer → Bytes
bytes_of (refusal number offset) = []
bytes_of (schema bs) = bs
bytes_of (errors bs) = bs

-- R8: the answer is longer than the lent buffer
unfoldable pub fitted : ℕ → Answer → Answer
fitted room a = pick (leb (length (bytes_of a)) room) a (refusal 8 0)

abbrev pub answer_to : ℕ → Decoded → Answer
answer_to room (refused number offset) = refusal number offset
answer_to room (tokens ts) = fitted room (answer_of (parse ts))

-- the answer to a table, given a buffer of so many bytes
unfoldable pub read_answer : Bytes → ℕ → Answer
read_answer table room = answer_to room (decode table)

-- the buffer after an answer
abbrev pub buffer_after : Bytes → Answer → Bytes
buffer_after buffer (refusal number offset) = buffer
buffer_after buffer (schema bs) = bs ++ drop (length bs) buffer
buffer_after buffer (errors bs) = bs ++ drop (length bs) buffer

-- a call that read this table was lent `before`, answered r and left `after`
pub record Read (table before after : Bytes) (r : Answer) : Type 0 where
  pub answer : r ≡ read_answer table (length before)
  pub buffer : after ≡ buffer_after before r
