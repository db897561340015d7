-- The order by bytes is a total order, and equality is its zero; so is the order of names on their snake forms.
use mathlib.Core.Path.{◌≡◌, refl, ap, ◌∙◌}
use mathlib.Core.Bool.{true, false}
use Prim.Native.Nat.{ℕ}
use native.Mathlib.Omega.{arith}
use Rattle.std.specs.Cmp.{Equal-is, tied_itself}
use Rattle.std.specs.Cmp.Lexicographic.{bytes_decides, texts_ties, nat_list_cmp_total}
use Rattle.std.specs.Ordering.{ordering_reverse, is_eq}
use Rattle.wire.specs.Bytes.{Bytes}
use Rattle.identifier.specs.Forms.{snake_of}
use Rattle.identifier.specs.Order.{order_of, name_order, is_less, is_equal, is_before, same_name}
use Rattle.std.specs.declared.cmp.Ordering.{Ordering}
use Rattle.std.specs.declared.cmp.Ordering.TheVariants.{Less, Equal, Greater}

apart : {A : Type 0} → ◌≡◌ {A = ℕ} 0 1 → A
apart e = absurd (omega arith)

abbrev pub flip : Ordering → Ordering
flip = ordering_reverse

pub order_refl : (x : Bytes) → order_of x x ≡ Equal
order_refl = tied_itself nat_list_cmp_total

pub order_flip : (x y : Bytes) → order_of y x ≡ flip (order_of x y)
order_flip x y = nat_list_cmp_total.antisymm y x

pub order_zero : (x y : Bytes) → order_of x y ≡ Equal → x ≡ y
order_zero x y h = (bytes_decides x y).0 (texts_ties x y ∙ ap is_eq h)

pub order_trans : (x y z : Bytes) → order_of x y ≡ Less → order_of y z ≡ Less → order_of x z ≡ Less
order_trans = nat_list_cmp_total.trans

less_is : (o : Ordering) → is_less o ≡ true → o ≡ Less
less_is Less e = refl
less_is Equal e = apart cc
less_is Greater e = apart cc

-- what the tests of names say
module _ (a b : Bytes) where
  pub same_snake : same_name a b ≡ true → snake_of a ≡ snake_of b
  unfolding same_name name_order
  same_snake e = order_zero (snake_of a) (snake_of b) ((Equal-is _).0 e)

  pub snake_same : snake_of a ≡ snake_of b → same_name a b ≡ true
  unfolding same_name name_order
  snake_same e = rw (e, order_refl (snake_of b))

  name_flip : name_order b a ≡ flip (name_order a b)
  unfolding name_order
  name_flip = order_flip (snake_of a) (snake_of b)

  pub same_sym : same_name b a ≡ same_name a b
  unfolding same_name
  same_sym = rw name_flip (go (name_order a b))
    where
      go : (o : Ordering) → is_equal (flip o) ≡ is_equal o
      go Less = refl
      go Equal = refl
      go Greater = refl

  pub before_alone : is_before a b ≡ true → (is_before b a ≡ false) × (same_name a b ≡ false)
  unfolding is_before same_name
  before_alone e = let l : name_order a b ≡ Less = less_is (name_order a b) e in (rw (name_flip, l), rw l)

  pub before_else : is_before a b ≡ false → same_name a b ≡ false → is_before b a ≡ true
  unfolding is_before same_name
  before_else e f = rw name_flip (go (name_order a b) e f)
    where
      go : (o : Ordering) → is_less o ≡ false → is_equal o ≡ false → is_less (flip o) ≡ true
      go Less e f = apart cc
      go Equal e f = apart cc
      go Greater e f = refl

pub before_trans : (a b c : Bytes) → is_before a b ≡ true → is_before b c ≡ true → is_before a c ≡ true
unfolding is_before name_order
before_trans a b c e f = rw (order_trans (snake_of a) (snake_of b) (snake_of c) (less_is _ e) (less_is _ f))
