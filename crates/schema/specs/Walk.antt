-- Places in a schema table: what stands at a place, and what the check has shown of the records from there on.
use Rattle.std.specs.Prelude.{ℕ, ◌+◌, ◌-◌, ◌≤◌, ◌≡◌, Bool, true, List, length, take, drop}
use Rattle.wire.specs.Bytes.{Bytes}
use Rattle.wire.specs.Le.{u16_at, u32_at}
use Rattle.token.specs.Token.{Token}
use Rattle.schema.specs.Table.{records_of, is_framed, may_follow, are_next}

abbrev pub records_from : Bytes → ℕ → List Token
records_from t at = records_of (drop at t)

-- the record at a place: its kind, its source range, the place after it, what it holds
abbrev pub kind_at : Bytes → ℕ → ℕ
kind_at t at = u16_at t (at + 2)

abbrev pub start_at : Bytes → ℕ → ℕ
start_at t at = u32_at t (at + 4)

abbrev pub end_at : Bytes → ℕ → ℕ
end_at t at = u32_at t (at + 8)

abbrev pub next_at : Bytes → ℕ → ℕ
next_at t at = at + u16_at t at

abbrev pub payload_at : Bytes → ℕ → Bytes
payload_at t at = take (next_at t at - (at + 12)) (drop (at + 12) t)

abbrev pub token_at : Bytes → ℕ → Token
token_at t at = record { kind = kind_at t at; start = start_at t at; end = end_at t at; payload = payload_at t at }

-- a record stands whole at a place
pub record WholeAt (t : Bytes) (at : ℕ) : Type 0 where
  pub head : at + 12 ≤ next_at t at
  pub tail : next_at t at ≤ length t

-- all records from `at` on are right, and the first one's kind (0 at the table's end) is one that may stand there
pub record Stands (t : Bytes) (at : ℕ) (may : ℕ → Bool) : Type 0 where
  pub inside : at ≤ length t
  pub framed : is_framed (drop at t) ≡ true
  pub before : Token
  pub row : ℕ
  pub follows : (k : ℕ) → may_follow before.kind k ≡ may k
  pub right : are_next before row (records_from t at) ≡ true
