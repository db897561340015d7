-- Relativizing: two namespaces are walked together while their names are the same, and the names after the common start are counted.
use mathlib.Core.Path.{◌≡◌, refl, ap, ap₂, sym, ◌∙◌}
use mathlib.Core.Bool.{Bool, true, false}
use mathlib.Core.List.{List, [], ◌∷◌}
use Prim.Native.Nat.{ℕ, suc, ◌-◌, ◌≤◌}
use native.Mathlib.Omega.{arith}
use lib.ListN.{length}
use Rattle.std.specs.Prelude.{Result, Ok, Err, IsErrAnd}
use Rattle.wire.specs.Bytes.{Bytes}
use Rattle.wire.specs.Pick.{pick}
use Rattle.wire.specs.Refusal.{refused_by}
use Rattle.wire.specs.declared.Refused.{Refused}
use Rattle.wire.specs.declared.Refusal.TheVariants.{NotAName}
use Rattle.identifier.specs.Order.{same_name}
use Rattle.names.specs.Answer.{answer_of, buffer_of, with_steps, Answers, Relatives}
use Rattle.names.specs.declared.Relative.{Relative}
use Rattle.names.specs.Namespace.{is_namespace, names_of, after_names, common, common_of, relative_of, steps_up}
use Rattle.names.specs.Whole.{is_whole, Split, whole_of, Parted}
use Rattle.names.proofs.Walk.{Holds, holds, holds_names, few, front, at_end, names_whole}

-- the names before what is left of two namespaces are the same
pub record Shared (a b one other : Bytes) : Type 0 where
  pub names : List Bytes
  pub held : Holds one names
  pub others : List Bytes
  pub held_too : Holds other others
  pub rest : after_names (common names others) one ≡ relative_of a b
  pub up : length others - common names others ≡ steps_up a b
  pub small : length others ≤ 64

pub share_none : {a b : Bytes} → is_namespace a ≡ true → is_namespace b ≡ true → Shared a b a b
unfolding is_namespace names_of relative_of steps_up common_of
share_none {a} {b} e f =
    record { names = names_of a; held = holds 64 a e; others = names_of b; held_too = holds 64 b f; rest = refl; up = refl; small = few 64 b }

module _ {a b one other : Bytes} (g : Shared a b one other) where
  pub other_good : is_namespace other ≡ true
  unfolding is_namespace
  other_good = (holds_names 64 g.held_too g.small).0

  parted : common g.names g.others ≡ 0 → Parted a b one other
  unfolding names_of
  parted z =
      record {
        rest = ap (λ (k : ℕ). after_names k one) (sym z) ∙ g.rest;
        up = omega (arith, ap length (holds_names 64 g.held_too g.small).1, z, g.up);
      }

  common_none : (xs : List Bytes) → common xs [] ≡ 0
  common_none [] = refl
  common_none (x ∷ xs) = refl

  pub first_ends : is_whole one ≡ false → Parted a b one other
  first_ends k = parted (ap (λ (l : List Bytes). common l g.others) (at_end g.held k))

  pub second_ends : is_whole other ≡ false → Parted a b one other
  second_ends k = parted (ap (common g.names) (at_end g.held_too k) ∙ common_none g.names)

  module _ {x y x_rest y_rest : Bytes} (p : Split one x x_rest) (q : Split other y y_rest) {s : Bool} (e : s ≡ same_name x y) where
    pub differ : s ≡ false → Parted a b one other
    differ f = parted (ap₂ common (front g.held p).is (front g.held_too q).is ∙ rw (sym e ∙ f, common))

    pub share_one : s ≡ true → Shared a b x_rest y_rest
    share_one t =
        let h = front g.held p in
        let m = front g.held_too q in
        let c : common g.names g.others ≡ suc (common h.rest m.rest) = ap₂ common h.is m.is ∙ rw (sym e ∙ t, common) in
        record {
          names = h.rest;
          held = h.after;
          others = m.rest;
          held_too = m.after;
          rest = ap (after_names (common h.rest m.rest)) p.after ∙ ap (λ (n : ℕ). after_names n one) (sym c) ∙ g.rest;
          up = omega (arith, c, g.up, ap length m.is);
          small = omega (arith, g.small, ap length m.is);
        }

-- the answers of `relativize`
pub relative_stored : {a b one other o o' : Bytes} {n size : ℕ} → is_namespace other ≡ true → Parted a b one other → n ≡ length (whole_of other)
    → Answers true one o o' (Ok size) → Relatives true (relative_of a b) (steps_up a b) o o' (Ok (record { size = size; up = n }))
relative_stored {other = other} {n = n} h g e p =
    let u : n ≡ steps_up _ _ = e ∙ ap length (names_whole other h) ∙ g.up in
    let w = rw g.rest at p in
    record { answer = rw u (ap (with_steps _) w.answer); buffer = w.buffer }

pub relative_bad : {good : Bool} {bs o : Bytes} {up : ℕ} {e : Refused} (r : Result Relative Refused) → good ≡ false → IsErrAnd r (λ y. y ≡ e)
    → e ≡ refused_by NotAName → Relatives good bs up o o r
unfolding answer_of buffer_of pick
relative_bad (Ok a) f p q = absurd p
relative_bad (Err y) f p q = record { answer = rw (f, p, q); buffer = rw f }
