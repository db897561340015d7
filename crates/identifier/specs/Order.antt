-- Document 01, "Names": equality and order are those of the snake forms, by bytes.
use Rattle.std.specs.Prelude.{◌≡◌, Bool, true, ◌<◌, ◌≤◌, ℕ, length, get_or, drop}
use Rattle.std.specs.Cmp.Lexicographic.{slice_cmp}
use Rattle.std.specs.Ordering.{nat_cmp, is_lt, is_eq}
use Rattle.wire.specs.Bytes.{Bytes}
use Rattle.identifier.specs.Byte.{is_plain}
use Rattle.identifier.specs.Forms.{low, bar_low, snake_of}
use Rattle.identifier.specs.Left.{left_of, state_to}
use Rattle.std.specs.declared.cmp.Ordering.{Ordering}

-- two lists of bytes, as a dictionary has them
abbrev pub order_of : Bytes → Bytes → Ordering
order_of = slice_cmp nat_cmp

unfoldable pub name_order : Bytes → Bytes → Ordering
name_order a b = order_of (snake_of a) (snake_of b)

-- the tests that other definitions compute with
abbrev pub is_less : Ordering → Bool
is_less = is_lt

abbrev pub is_equal : Ordering → Bool
is_equal = is_eq

unfoldable pub is_before : Bytes → Bytes → Bool
is_before a b = is_less (name_order a b)

unfoldable pub same_name : Bytes → Bytes → Bool
same_name a b = is_equal (name_order a b)

-- what is left of two names at a place decides their order, and the bytes there differ
pub record SameTo (a b : Bytes) (at : ℕ) : Type 0 where
  pub left : order_of (left_of low bar_low (state_to a at) (drop at a)) (left_of low bar_low (state_to a at) (drop at b)) ≡ name_order a b
  pub inside : at ≤ length a
  pub inside' : at ≤ length b
  pub apart : at < length a → at < length b → get_or a at 0 ≡ get_or b at 0 → ⊥

-- a place of both names, where their bytes stand in the forms as they are
pub record Decided (a b : Bytes) (at : ℕ) : Type 0 where
  pub first : at < length a
  pub second : at < length b
  pub plain : is_plain (get_or a at 0) ≡ true
  pub plain' : is_plain (get_or b at 0) ≡ true
