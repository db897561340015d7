-- Bytes that two names begin with in common add the same to both forms. Two bytes that differ then decide, where they stand in the forms as they are.
use mathlib.Core.Path.{◌≡◌, refl, ap, sym, ◌∙◌}
use mathlib.Core.Bool.{Bool, true, false, cond}
use mathlib.Core.List.{[], ◌∷◌, ◌++◌, append_assoc}
use Prim.Native.Nat.{ℕ, suc, ◌+◌, ◌<◌, ◌≤◌}
use native.Mathlib.Omega.{arith}
use borrow.Author.Tests.{eqb-true, eqb-false}
use lib.Dec.{eqb, ltb}
use lib.ListN.{length, get_or, take, drop}
use lib.Seq.{drop-cons}
use Rattle.std.specs.Cmp.{nat_cmp_total, tied_itself}
use Rattle.std.specs.List.{fold, prefix_len, zip}
use Rattle.std.specs.Ordering.{nat_cmp, ordering_then}
use Rattle.wire.specs.Bytes.{Bytes}
use Rattle.identifier.specs.Byte.{is_plain}
use Rattle.identifier.specs.Forms.{low, bar_low, snake_of}
use Rattle.identifier.specs.Left.{left_of, added, state_after, state_to}
use Rattle.identifier.specs.Order.{order_of, name_order, SameTo, Decided}
use Rattle.identifier.specs.declared.form_bytes.Case.TheVariants.{Snake}
use Rattle.identifier.specs.declared.form_bytes.State.{State}
use Rattle.identifier.specs.declared.form_bytes.State.TheVariants.{Before}
use Rattle.std.specs.declared.cmp.Ordering.TheVariants.{Less, Equal, Greater}
use Rattle.identifier.proofs.Left.{left_added, lead, added_itself}

-- what is left of a snake form
abbrev pub snake_left : State → Bytes → Bytes
snake_left state name = left_of low bar_low state name

order_common : (p x y : Bytes) → order_of (p ++ x) (p ++ y) ≡ order_of x y
order_common [] x y = refl
order_common (b ∷ p) x y = ap (λ o. ordering_then o (order_of (p ++ x) (p ++ y))) (tied_itself nat_cmp_total b) ∙ order_common p x y

-- how many bytes two names begin with in common
abbrev pub common : Bytes → Bytes → ℕ
common a b = prefix_len (λ p. eqb p.0 p.1) (zip a b)

-- what is left of the two forms at a place decides their order, where both began at this state
record Alike (s : State) (a b : Bytes) (at : ℕ) : Type 0 where
  left : order_of (snake_left (fold state_after s (take at a)) (drop at a)) (snake_left (fold state_after s (take at a)) (drop at b))
      ≡ order_of (snake_left s a) (snake_left s b)
  inside : at ≤ length a
  inside' : at ≤ length b
  apart : at < length a → at < length b → get_or a at 0 ≡ get_or b at 0 → ⊥

alike : (s : State) (a b : Bytes) → Alike s a b (common a b)
alike s [] b = record { left = refl; inside = omega arith; inside' = omega arith; apart = λ h k e. omega arith }
alike s (x ∷ a) [] = record { left = refl; inside = omega arith; inside' = omega arith; apart = λ h k e. omega arith }
alike s (x ∷ a) (y ∷ b) = go (eqb x y) refl (alike (state_after s x) a b)
  where
    forms : x ≡ y → order_of (snake_left s (x ∷ a)) (snake_left s (y ∷ b)) ≡ order_of (snake_left (state_after s x) a) (snake_left (state_after s x) b)
    forms z = rw (← z, left_added Snake x a s, left_added Snake x b s) (order_common (added Snake s x) _ _)

    go : (k : Bool) → eqb x y ≡ k → Alike (state_after s x) a b (common a b) → Alike s (x ∷ a) (y ∷ b) (common (x ∷ a) (y ∷ b))
    go true e g =
        let z : x ≡ y = eqb-true x y e in
        let one : 1 + common a b ≡ suc (common a b) = omega arith in
        rw (e, one) record {
          left = g.left ∙ sym (forms z);
          inside = omega (arith, g.inside);
          inside' = omega (arith, g.inside');
          apart = λ h k. g.apart (omega arith) (omega arith);
        }
    go false e g = rw e record { left = refl; inside = omega arith; inside' = omega arith; apart = λ h k z. eqb-false x y e z }

pub same_to : (a b : Bytes) {at : ℕ} → at ≡ common a b → SameTo a b at
unfolding name_order snake_of
same_to a b e =
    let g = alike Before a b in
    rw e record { left = g.left; inside = g.inside; inside' = g.inside'; apart = g.apart }

-- two bytes that differ decide, where they stand in the forms as they are
record Begins (l : Bytes) (x : ℕ) (p : Bytes) : Type 0 where
  rest : Bytes
  whole : p ≡ l ++ (x ∷ rest)

order_differ : {l p q : Bytes} {x y : ℕ} → Begins l x p → Begins l y q → (x ≡ y → ⊥) → nat_cmp x y ≡ order_of p q
order_differ {l} {x = x} {y = y} f g n = rw (f.whole, g.whole, order_common l (x ∷ f.rest) (y ∷ g.rest)) (go (ltb x y) (eqb x y) refl)
  where
    go : (k m : Bool) → eqb x y ≡ m → cond k Less (cond m Equal Greater) ≡ ordering_then (cond k Less (cond m Equal Greater)) (order_of f.rest g.rest)
    go true m e = refl
    go false true e = absurd (n (eqb-true x y e))
    go false false e = refl

snake_itself : (s : State) (name : Bytes) (at : ℕ) → at < length name → is_plain (get_or name at 0) ≡ true
    → Begins (lead s) (get_or name at 0) (snake_left s (drop at name))
snake_itself s name at h e =
    record {
      rest = snake_left (state_after s (get_or name at 0)) (drop (suc at) name);
      whole = rw (drop-cons name at 0 h) (left_added Snake (get_or name at 0) (drop (suc at) name) s ∙ rw (added_itself s (get_or name at 0) e)
          (append_assoc (lead s) (get_or name at 0 ∷ []) (snake_left (state_after s (get_or name at 0)) (drop (suc at) name))));
    }

pub decides : {a b : Bytes} {at : ℕ} → SameTo a b at → Decided a b at → nat_cmp (get_or a at 0) (get_or b at 0) ≡ name_order a b
decides {a} {b} {at} g d =
    let s = state_to a at in
    order_differ (snake_itself s a at d.first d.plain) (snake_itself s b at d.second d.plain') (g.apart d.first d.second) ∙ g.left
