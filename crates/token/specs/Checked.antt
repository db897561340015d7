-- The check's answer: R1 to R7 as document 01 numbers them and the faulty record's offset, else how many tokens there are and where the last ends.
use Rattle.std.specs.Prelude.{ℕ, ◌≡◌, length, Result, Ok, Err, MatchResult}
use Rattle.wire.specs.Bytes.{Bytes}
use Rattle.wire.specs.Refusal.{number_of}
use Rattle.wire.specs.declared.Refusal.{Refusal}
use Rattle.wire.specs.declared.Refused.{Refused}
use Rattle.token.specs.Token.{Token, end_of}
use Rattle.token.specs.Table.{Decoded, decode, row_after}
use Rattle.token.specs.declared.Checked.{Checked}

pub data Told : Type 0 where
  refused : ℕ → ℕ → Told
  fine : ℕ → ℕ → Told

abbrev pub answer_of : Decoded → Told
answer_of (Decoded.refused number at) = Told.refused number at
answer_of (Decoded.tokens ts) = Told.fine (length ts) (end_of 0 ts)

unfoldable pub checked : Bytes → Told
checked t = answer_of (decode t)

-- what the code answers, in these numbers
abbrev pub numbered : Result Checked Refused → Told
numbered (Ok c) = Told.fine c.count c.end
numbered (Err r) = Told.refused (number_of r.refusal) r.offset

-- a refusal of this number, or, where it is 0, a value of which P holds
abbrev pub Faults : {A : Type 0} → ℕ → Result A Refusal → (A → Type 0) → Type 0
Faults number r P = MatchResult r (λ a. (number ≡ 0) × P a) (λ e. number_of e ≡ number)

-- what a token leaves after `row` LeftSquares: where it ends, and how many LeftSquares in a row
pub record Passed (row : ℕ) (t : Token) (end row' : ℕ) : Type 0 where
  pub ends : end ≡ t.end
  pub squares : row' ≡ row_after row t.kind
