-- The names that lie one after the other in any bytes, for the functions that walk them.
use Rattle.std.specs.Prelude.{◌≡◌, Bool, true, ◌&&◌, List, [], ◌∷◌, ℕ, zero, suc, ◌+◌, leb, length}
use Rattle.wire.specs.Bytes.{Bytes}
use Rattle.wire.specs.Le.{u16_at}
use Rattle.wire.specs.Pick.{pick}
use Rattle.names.specs.Namespace.{first_name, after_name, names_of, relative_of, steps_up}

-- the bytes hold a length and as many bytes as it says
unfoldable pub is_whole : Bytes → Bool
is_whole bs = leb 2 (length bs) && leb (2 + u16_at bs 0) (length bs)

-- such a length and its bytes, and what follows them
pub record Split (bs name rest : Bytes) : Type 0 where
  pub whole : is_whole bs ≡ true
  pub first : name ≡ first_name bs
  pub after : rest ≡ after_name bs

-- those at the front, at most n
abbrev pub whole_in : ℕ → Bytes → List Bytes
whole_in zero bs = []
whole_in (suc n) bs = pick (is_whole bs) (first_name bs ∷ whole_in n (after_name bs)) []

unfoldable pub whole_of : Bytes → List Bytes
whole_of bs = whole_in (length bs) bs

-- what follows the common start of two namespaces
pub record Parted (a b one other : Bytes) : Type 0 where
  pub rest : one ≡ relative_of a b
  pub up : length (names_of other) ≡ steps_up a b
