-- Little-endian numbers: the bytes of a number, the number of bytes, and the number that stands at a place.
use Rattle.std.specs.Prelude.{[], ◌∷◌, ℕ, zero, suc, ◌+◌, ◌*◌, ◌/◌, ◌%◌, take, drop}
use Rattle.wire.specs.Bytes.{Bytes}

-- the k lowest bytes of n, the lowest first
unfoldable pub le_bytes : ℕ → ℕ → Bytes
le_bytes zero n = []
le_bytes (suc k) n = n % 256 ∷ le_bytes k (n / 256)

-- the number whose bytes these are
unfoldable pub le_number : Bytes → ℕ
le_number [] = 0
le_number (b ∷ bs) = b + 256 * le_number bs

-- the number in the k bytes of s from `at` on
unfoldable pub le_at : ℕ → Bytes → ℕ → ℕ
le_at k s at = le_number (take k (drop at s))

abbrev pub u16_at : Bytes → ℕ → ℕ
u16_at = le_at 2

abbrev pub u32_at : Bytes → ℕ → ℕ
u32_at = le_at 4

abbrev pub u64_at : Bytes → ℕ → ℕ
u64_at = le_at 8
