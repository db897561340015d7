-- The tokens that a table can hold, said of the tokens alone.
use Rattle.std.specs.Prelude.{ℕ, suc, ◌≤◌, ◌<◌, ◌≡◌, true, List, [], ◌∷◌, length}
use Rattle.wire.specs.Bytes.{Bytes}
use Rattle.token.specs.Token.{Token, end_of}
use Rattle.token.specs.Payload.{is_payload}
use Rattle.token.specs.Table.{row_after, encode_tokens}

-- a token after one that ends at `last` and `row` LeftSquares
pub record Sound (last row : ℕ) (t : Token) : Type 0 where
  pub known : (1 ≤ t.kind) × (t.kind ≤ 25)
  pub payload : is_payload t.kind t.payload ≡ true
  pub order : (last ≤ t.start) × (t.start ≤ t.end)
  pub shallow : row_after row t.kind ≤ 64

-- and at most n of them
pub data Fit : ℕ → ℕ → ℕ → List Token → Type 0 where
  none : {n last row : ℕ} → Fit n last row []
  more : {n last row : ℕ} {t : Token} {ts : List Token} → Sound last row t → Fit n t.end (row_after row t.kind) ts → Fit (suc n) last row (t ∷ ts)

-- these are the tokens of this table: they fit, their ends are u32s, their records are its bytes, and it is not too long
pub record Holds (t : Bytes) (ts : List Token) : Type 0 where
  pub fit : Fit 4096 0 0 ts
  pub narrow : end_of 0 ts < 4294967296
  pub bytes : encode_tokens ts ≡ t
  pub small : length t ≤ 65536
