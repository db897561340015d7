-- An answer as two numbers, for a caller that has no enums.
use Rattle.std.specs.Prelude.{ℕ, ◌≡◌, take, Result, Ok, Err}
use Rattle.wire.specs.Bytes.{Bytes}
use Rattle.wire.specs.Refusal.{number_of}
use Rattle.wire.specs.declared.Refused.{Refused}
use Rattle.reader.specs.Answers.{Answers}
use Rattle.reader.specs.declared.Answer.{Answer}
use Rattle.reader.specs.declared.Answer.TheVariants.{Schema, Errors}
use Rattle.writer.specs.Written.{Writes}

abbrev pub read_status : Result Answer Refused → ℕ
read_status (Ok (Schema length)) = 0
read_status (Ok (Errors length)) = 256
read_status (Err r) = number_of r.refusal

abbrev pub read_value : Result Answer Refused → ℕ
read_value (Ok (Schema length)) = length
read_value (Ok (Errors length)) = length
read_value (Err r) = r.offset

abbrev pub write_status : Result ℕ Refused → ℕ
write_status (Ok length) = 0
write_status (Err r) = number_of r.refusal

abbrev pub write_value : Result ℕ Refused → ℕ
write_value (Ok length) = length
write_value (Err r) = r.offset

-- the function's own answer, told by these
pub record Returns {A : Type 0} (Promise : A → Type 0) (status value : A → ℕ) (v r : ℕ) : Type 0 where
  pub answer : A
  pub promised : Promise answer
  pub status_is : r ≡ status answer
  pub value_is : v ≡ value answer

-- what follows reading: the schema table that was read is written, else nothing is
abbrev pub Formatted : Bytes → Bytes → Bytes → ℕ → ℕ → Result Answer Refused → Type 0
Formatted schema text text' v r (Ok (Schema n)) = Returns (Writes (take n schema) text text') write_status write_value v r
Formatted schema text text' v r (Ok (Errors length)) = (text' ≡ text) × (r ≡ 256) × (v ≡ length)
Formatted schema text text' v r (Err refused) = (text' ≡ text) × (r ≡ number_of refused.refusal) × (v ≡ refused.offset)

pub record Formats (table schema schema' text text' : Bytes) (v r : ℕ) : Type 0 where
  pub answer : Result Answer Refused
  pub answered : Answers table schema schema' answer
  pub formatted : Formatted schema' text text' v r answer
