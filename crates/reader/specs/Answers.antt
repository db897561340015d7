-- What a call of the reader promises: the enum's cases in document 01's numbers and values, and the lent buffer afterwards.
use Rattle.std.specs.Prelude.{ℕ, ◌≤◌, ◌≡◌, List, [], length, Result, Ok, Err}
use Rattle.wire.specs.Bytes.{Bytes}
use Rattle.wire.specs.Refusal.{number_of}
use Rattle.wire.specs.declared.Refused.{Refused}
use Rattle.token.specs.Token.{end_of}
use Rattle.token.specs.Table.{tokens, decode}
use Rattle.token.specs.Places.{tokens_from, Wf}
use Rattle.grammar.specs.Reading.{parse_schema}
use Rattle.grammar.specs.Answer.{read_answer, buffer_after}
use Rattle.grammar.specs.Answer as reading
use Rattle.places.specs.Imports.{Orders}
use Rattle.places.specs.declared.Ordered.{Ordered}
use Rattle.reader.specs.declared.Answer.{Answer}
use Rattle.reader.specs.declared.Answer.TheVariants.{Schema, Errors}

-- a refusal tells its number and offset, a success the length written
pub data Told : Type 0 where
  refused : ℕ → ℕ → Told
  schema : ℕ → Told
  errors : ℕ → Told

abbrev pub told : reading.Answer → Told
told (reading.Answer.refusal number offset) = refused number offset
told (reading.Answer.schema bs) = schema (length bs)
told (reading.Answer.errors bs) = errors (length bs)

-- the code's answer in document 01's numbers and values
abbrev pub numbered : Result Answer Refused → Told
numbered (Ok (Schema n)) = schema n
numbered (Ok (Errors n)) = errors n
numbered (Err r) = refused (number_of r.refusal) r.offset

pub record Answers (table before after : Bytes) (r : Result Answer Refused) : Type 0 where
  pub answer : numbered r ≡ told (read_answer table (length before))
  pub buffer : after ≡ buffer_after before (read_answer table (length before))

-- a table that token::check passed, and its last token's end
pub record Checked (t : Bytes) (end : ℕ) : Type 0 where
  pub decodes : decode t ≡ tokens (tokens_from t 0)
  pub last : end ≡ end_of 0 (tokens_from t 0)
  pub wf : Wf t 0

-- and three lent lists with room for a place of each token
pub record Lent (t : Bytes) (end : ℕ) (imports items spare : List ℕ) : Type 0 where
  pub checked : Checked t end
  pub order : length (tokens_from t 0) ≤ length imports
  pub list : length (tokens_from t 0) ≤ length items
  pub work : length (tokens_from t 0) ≤ length spare

-- and its imports in order
pub record Ready (t : Bytes) (end : ℕ) (imports : List ℕ) (order : Ordered) (items spare : List ℕ) : Type 0 where
  pub checked : Checked t end
  pub orders : Orders t imports order
  pub list : length (tokens_from t 0) ≤ length items
  pub work : length (tokens_from t 0) ≤ length spare

-- the same of a table that has no errors
pub record Clean (t : Bytes) (imports : List ℕ) (order : Ordered) (items spare : List ℕ) : Type 0 where
  pub decodes : decode t ≡ tokens (tokens_from t 0)
  pub wf : Wf t 0
  pub none : (parse_schema (tokens_from t 0)).errors ≡ []
  pub orders : Orders t imports order
  pub list : length (tokens_from t 0) ≤ length items
  pub work : length (tokens_from t 0) ≤ length spare
