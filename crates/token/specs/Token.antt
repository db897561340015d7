-- A token, as a record of a token table gives it: a kind from 1 to 25 (Kind.antt), its source range, its payload.
use Rattle.std.specs.Prelude.{ℕ, List, [], ◌∷◌}
use Rattle.wire.specs.Bytes.{Bytes}

pub record Token : Type 0 where
  pub kind : ℕ
  pub start : ℕ
  pub end : ℕ
  pub payload : Bytes

abbrev pub token : ℕ → ℕ → ℕ → Bytes → Token
token kind start end payload = record { kind = kind; start = start; end = end; payload = payload }

-- where the last of the tokens ends; `before` where there is none
abbrev pub end_of : ℕ → List Token → ℕ
end_of before [] = before
end_of before (t ∷ ts) = end_of t.end ts
