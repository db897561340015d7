-- Letters and breaks: what a byte's lower and upper forms are.
use mathlib.Core.Path.{◌≡◌, refl, sym, ◌∙◌}
use mathlib.Core.Bool.{Bool, true, false, ◌||◌, ◌&&◌}
use Prim.Native.Nat.{ℕ, ◌-◌, ◌≤◌, ◌<◌}
use native.Mathlib.Omega.{arith}
use lib.Dec.{leb}
use borrow.Author.Tests.{le-leb, lt-leb, leb-true, leb-false, ne_eqb}
use Rattle.wire.specs.Pick.{pick}
use Rattle.identifier.specs.Byte.{within, is_upper, is_lower, is_letter, is_plain, is_break, lower_of, upper_of}

-- a byte lies in a range or outside of it
data Lies (lo hi b : ℕ) : Type 0 where
  inside : lo ≤ b → b ≤ hi → within lo hi b ≡ true → Lies lo hi b
  below : b < lo → within lo hi b ≡ false → Lies lo hi b
  above : hi < b → within lo hi b ≡ false → Lies lo hi b

lies : (lo hi b : ℕ) → Lies lo hi b
lies lo hi b = go (leb lo b) (leb b hi) refl refl
  where
    go : (x y : Bool) → leb lo b ≡ x → leb b hi ≡ y → Lies lo hi b
    go false y e f = below (leb-false lo b e) (rw e)
    go true true e f = inside (leb-true lo b e) (leb-true b hi f) (rw (e, f))
    go true false e f = above (leb-false b hi f) (rw (e, f))

in_range : (lo hi b : ℕ) → lo ≤ b → b ≤ hi → within lo hi b ≡ true
in_range lo hi b h k = rw (le-leb lo b h, le-leb b hi k)

past_range : (lo hi b : ℕ) → hi < b → within lo hi b ≡ false
past_range lo hi b h = go (leb lo b)
  where
    go : (x : Bool) → (x && leb b hi) ≡ false
    go true = lt-leb b hi h
    go false = refl

no_break : (b : ℕ) → (b ≡ 95 → ⊥) → (b ≡ 45 → ⊥) → is_break b ≡ false
no_break b h k = rw (ne_eqb b 95 h, ne_eqb b 45 k)

pub never : {A : Type 0} → false ≡ true → A
never e = let z : ◌≡◌ {A = ℕ} 0 1 = cc in absurd (omega arith)

pub upper_no_break : (b : ℕ) → is_upper b ≡ true → is_break b ≡ false
upper_no_break b e =
    elim (lies 65 90 b) [
      | inside h k q ↦ no_break b (λ z. omega arith) (λ z. omega arith)
      | below h q ↦ never (sym q ∙ e)
      | above h q ↦ never (sym q ∙ e)
    ]

-- a small letter or a digit is neither a break nor a capital
pub plain_is : (b : ℕ) → is_plain b ≡ true → (is_break b ≡ false) × (is_upper b ≡ false)
plain_is b e =
    elim (lies 97 122 b) [
      | inside h k q ↦ (no_break b (λ z. omega arith) (λ z. omega arith), past_range 65 90 b (omega arith))
      | below h q ↦ digit q
      | above h q ↦ digit q
    ]
  where
    digit : is_lower b ≡ false → (is_break b ≡ false) × (is_upper b ≡ false)
    digit q =
        elim (lies 48 57 b) [
          | inside h k p ↦ (no_break b (λ z. omega arith) (λ z. omega arith), rw (lt-leb 65 b (omega arith)))
          | below h p ↦ never (rw (q, p) at e)
          | above h p ↦ never (rw (q, p) at e)
        ]

-- only a small letter has another upper form, a capital, which has the same lower form
module _ (b : ℕ) where
  raised : 97 ≤ b → b ≤ 122 → upper_of b ≡ b - 32
  unfolding upper_of pick
  raised h k = rw (in_range 97 122 b h k)

  kept : is_lower b ≡ false → upper_of b ≡ b
  unfolding upper_of pick
  kept e = rw e

  pub lower_upper : lower_of (upper_of b) ≡ lower_of b
  unfolding lower_of pick
  lower_upper =
      elim (lies 97 122 b) [
        | inside h k q ↦ rw (raised h k, in_range 65 90 (b - 32) (omega arith) (omega arith), past_range 65 90 b (omega arith)) (omega arith)
        | below h q ↦ rw (kept q)
        | above h q ↦ rw (kept q)
      ]

  pub upper_letter : is_upper (upper_of b) ≡ is_letter b
  upper_letter =
      elim (lies 97 122 b) [
        | inside h k q ↦ rw (raised h k, in_range 65 90 (b - 32) (omega arith) (omega arith), q) (go (is_upper b))
        | below h q ↦ rw (kept q, q) (same (is_upper b))
        | above h q ↦ rw (kept q, q) (same (is_upper b))
      ]
    where
      go : (x : Bool) → true ≡ (x || true)
      go true = refl
      go false = refl

      same : (x : Bool) → x ≡ (x || false)
      same true = refl
      same false = refl

  pub upper_break : is_break b ≡ false → is_break (upper_of b) ≡ false
  upper_break e =
      elim (lies 97 122 b) [
        | inside h k q ↦ rw (raised h k) (no_break (b - 32) (λ z. omega arith) (λ z. omega arith))
        | below h q ↦ rw (kept q) e
        | above h q ↦ rw (kept q) e
      ]

  pub lower_plain : is_upper b ≡ false → lower_of b ≡ b
  unfolding lower_of pick
  lower_plain e = rw e
