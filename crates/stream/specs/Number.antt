-- The length that stands before each table of a list is a u32: what it is no contract can say, since a call of the system reads it.
use Rattle.std.specs.Prelude.{ℕ, ◌<◌, Option, None, Some}

abbrev pub InFourBytes : Option ℕ → Type 0
InFourBytes None = Unit {0}
InFourBytes (Some n) = n < 4294967296
