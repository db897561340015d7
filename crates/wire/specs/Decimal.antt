-- The decimal text of a number, in the fewest digits.
use Rattle.std.specs.Prelude.{true, false, [], ◌∷◌, ◌++◌, ℕ, zero, suc, ◌+◌, ◌/◌, ◌%◌, ltb}
use Rattle.wire.specs.Bytes.{Bytes}

-- the digits of n, of which there are at most f
unfoldable pub digits : ℕ → ℕ → Bytes
digits zero n = []
digits (suc f) n = elim (ltb n 10) [ true ↦ (48 + n) ∷ [] | false ↦ digits f (n / 10) ++ ((48 + n % 10) ∷ []) ]

-- a number has at most as many digits as one more than itself
unfoldable pub decimal : ℕ → Bytes
decimal n = digits (suc n) n
