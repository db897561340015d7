-- The tokens of a table from a place (a byte offset) on, and the places at which the check has judged every record to come.
use Rattle.std.specs.Prelude.{ℕ, zero, suc, ◌+◌, ◌-◌, ◌≤◌, max, ◌≡◌, List, [], ◌∷◌, length, drop}
use Rattle.wire.specs.Bytes.{Bytes}
use Rattle.token.specs.Token.{Token}
use Rattle.token.specs.Table.{size_of, token_of, tokens, decode_from}

-- the token at a place, and the place after its record, which is at least 12 bytes on
abbrev pub tok_at : Bytes → ℕ → Token
tok_at t at = token_of (drop at t)

unfoldable pub next_at : Bytes → ℕ → ℕ
next_at t at = at + max 12 (size_of (drop at t))

-- the tokens that these bytes hold, judged or not; there are at most n
abbrev pub tokens_in : ℕ → Bytes → List Token
tokens_in zero bs = []
tokens_in (suc n) [] = []
tokens_in (suc n) (b ∷ bs) = token_of (b ∷ bs) ∷ tokens_in n (drop (max 12 (size_of (b ∷ bs))) (b ∷ bs))

unfoldable pub tokens_from : Bytes → ℕ → List Token
tokens_from t at = tokens_in (length t - at) (drop at t)

-- every record from a place on is good: as what is left of a table, after a token that ends at `last` and `row` LeftSquares, they decode to their
-- tokens
pub record Wf (t : Bytes) (at : ℕ) : Type 0 where
  pub small : length t ≤ 65536
  pub inside : at ≤ length t
  pub left : ℕ
  pub few : left ≤ 4096
  pub last : ℕ
  pub row : ℕ
  pub shallow : row ≤ 64
  pub good : decode_from left at last row (drop at t) ≡ tokens (tokens_from t at)
