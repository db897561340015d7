-- What a writer does: bytes laid over a lent buffer from a place on, clipped at the buffer's end, and the place past them.
use Rattle.std.specs.Prelude.{◌≡◌, [], ◌∷◌, ◌++◌, ℕ, ◌+◌, min, leb, set, length, drop}
use Rattle.wire.specs.Bytes.{Bytes}
use Rattle.wire.specs.Pick.{pick}

-- the place after one more byte; it stops at the largest usize, so that no writer has to ask for room in its numbers
abbrev pub next : ℕ → ℕ
next at = min (at + 1) 18446744073709551615

-- o with the bytes laid over it from `at` on; what falls past o's end is dropped
unfoldable pub over : Bytes → ℕ → Bytes → Bytes
over o at [] = o
over o at (b ∷ bs) = over (set o at b) (next at) bs

-- the place past the bytes
unfoldable pub adv : ℕ → Bytes → ℕ
adv at [] = at
adv at (b ∷ bs) = adv (next at) bs

-- a writer was lent o and the place `at`, wrote bs, left o' and answered r
pub record Wrote (o : Bytes) (at : ℕ) (bs : Bytes) (o' : Bytes) (r : ℕ) : Type 0 where
  pub bytes : o' ≡ over o at bs
  pub place : r ≡ adv at bs

-- what a call leaves in o that answers with bs where they fit, and else refuses with R8
unfoldable pub laid : Bytes → Bytes → Bytes
laid o bs = pick (leb (length bs) (length o)) (bs ++ drop (length bs) o) o
