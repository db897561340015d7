-- A part of some bytes, by its two places.
use Rattle.std.specs.Prelude.{ℕ, ◌-◌, ◌≤◌, ◌≡◌, length, take, drop}
use Rattle.wire.specs.Bytes.{Bytes}
use Rattle.stem.specs.declared.Part.{Part}

-- the bytes from a up to e
abbrev pub part : ℕ → ℕ → Bytes → Bytes
part a e bs = take (e - a) (drop a bs)

-- these bytes stand at the part
pub record IsPart (bs these : Bytes) (r : Part) : Type 0 where
  pub order : r.from ≤ r.to
  pub inside : r.to ≤ length bs
  pub is : part r.from r.to bs ≡ these
