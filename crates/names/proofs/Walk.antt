-- Bytes that are names, name by name: what they begin with, what follows it, and which names they hold.
use mathlib.Core.Path.{◌≡◌, refl, ap, sym, ◌∙◌}
use mathlib.Core.Bool.{Bool, true, false, ◌&&◌, and-eq-true_iff, and_assoc}
use mathlib.Core.List.{List, [], ◌∷◌}
use mathlib.Core.Logic.{◌⊎◌, inl, inr}
use Prim.Native.Nat.{ℕ, zero, suc, ◌+◌, ◌<◌, ◌≤◌}
use native.Mathlib.Omega.{arith}
use lib.Dec.{leb}
use lib.ListN.{length, length-drop}
use borrow.Author.Tests.{leb-true, le-leb, lt-leb, ne_eqb}
use Rattle.std.specs.Prelude.{None, Some, MatchOption, ◌==◌}
use Rattle.std.specs.List.{IsSplitAt}
use Rattle.std.proofs.lemmas.List.{take-take, drop-drop}
use Rattle.std.proofs.Common.{Option, Bor}
use Rattle.wire.specs.Bytes.{Bytes}
use Rattle.wire.specs.Le.{le_at, le_number, u16_at}
use Rattle.wire.specs.Pick.{pick}
use Rattle.identifier.specs.Name.{is_name}
use Rattle.identifier.proofs.Good.{name_short}
use Rattle.names.specs.Namespace.{first_name, after_name, starts_name, are_names, is_namespace, names_in, names_of}
use Rattle.names.specs.Whole.{is_whole, Split, whole_in, whole_of}

-- the answers of `split_first_name`
pub cut_length : (bs : Bytes) → length bs < 2 → is_whole bs ≡ false
unfolding is_whole
cut_length bs h = rw (lt-leb 2 (length bs) h)

module _ (bs size rest : Bytes) (s : IsSplitAt bs 2 size rest) {n : ℕ} (e : n ≡ u16_at size 0) where
  size_is : n ≡ u16_at bs 0
  unfolding le_at
  size_is = e ∙ rw s.1 (ap le_number (take-take 2 2 bs (omega arith)))

  cut_name : length rest < n → is_whole bs ≡ false
  unfolding is_whole
  cut_name k = rw (le-leb 2 (length bs) s.0, lt-leb (2 + u16_at bs 0) (length bs) (omega (arith, size_is, s)))

  whole_name : {name after : Bytes} → IsSplitAt rest n name after → Split bs name after
  unfolding is_whole first_name after_name
  whole_name p =
      record {
        whole = rw (le-leb 2 (length bs) s.0, le-leb (2 + u16_at bs 0) (length bs) (omega (arith, size_is, s, p)));
        first = p.1 ∙ rw (size_is, s.2);
        after = p.2 ∙ rw (size_is, s.2, drop-drop);
      }

  pub split_is : (r : Option (Bor Bytes × Bor Bytes)) → MatchOption r (length rest < n) (λ p. IsSplitAt rest n p.0.now p.1.now)
      → MatchOption r (is_whole bs ≡ false) (λ p. Split bs p.0.now p.1.now)
  split_is None h = cut_name h
  split_is (Some p) h = whole_name h

whole_room : (bs : Bytes) → is_whole bs ≡ true → 2 + u16_at bs 0 ≤ length bs
unfolding is_whole
whole_room bs e = leb-true (2 + u16_at bs 0) (length bs) ((and-eq-true_iff (leb 2 (length bs)) (leb (2 + u16_at bs 0) (length bs))).0 e).1

after_shorter : (bs : Bytes) → is_whole bs ≡ true → length (after_name bs) + 2 ≤ length bs
unfolding after_name
after_shorter bs e = omega (arith, whole_room bs e, length-drop (2 + u16_at bs 0) bs)

none_whole : (bs : Bytes) → length bs ≤ 0 → is_whole bs ≡ false
none_whole bs h = cut_length bs (omega arith)

enough : (n m : ℕ) (bs : Bytes) → length bs ≤ n → length bs ≤ m → whole_in n bs ≡ whole_in m bs
unfolding pick
enough zero zero bs h k = refl
enough zero (suc m) bs h k = rw (none_whole bs h)
enough (suc n) zero bs h k = rw (none_whole bs k)
enough (suc n) (suc m) bs h k = go (is_whole bs) refl λ s. enough n m (after_name bs) (omega arith) (omega arith)
  where
    go : (x : Bool) → is_whole bs ≡ x → (length (after_name bs) + 2 ≤ length bs → whole_in n (after_name bs) ≡ whole_in m (after_name bs))
        → whole_in (suc n) bs ≡ whole_in (suc m) bs
    go true e f = rw e (ap (λ (names : List Bytes). first_name bs ∷ names) (f (after_shorter bs e)))
    go false e f = rw e

pub rest_shorter : {bs name rest : Bytes} → Split bs name rest → length rest < length bs
rest_shorter {bs} s = omega (arith, after_shorter bs s.whole, ap length s.after)

pub whole_none : (bs : Bytes) → is_whole bs ≡ false → whole_of bs ≡ []
unfolding whole_of pick
whole_none bs e = enough (length bs) (suc (length bs)) bs (omega arith) (omega arith) ∙ rw e

pub whole_next : {bs name rest : Bytes} → Split bs name rest → whole_of bs ≡ name ∷ whole_of rest
unfolding whole_of pick
whole_next {bs} s =
    let k = after_shorter bs s.whole in
    enough (length bs) (suc (length bs)) bs (omega arith) (omega arith) ∙ rw (s.whole, s.first, s.after)
    (ap (λ (names : List Bytes). first_name bs ∷ names) (enough (length bs) (length (after_name bs)) (after_name bs) (omega arith) (omega arith)))

-- bytes that are names
pub data Holds : Bytes → List Bytes → Type 0 where
  none : Holds [] []
  more : {b : ℕ} {bs : Bytes} {names : List Bytes} → starts_name (b ∷ bs) ≡ true → Holds (after_name (b ∷ bs)) names
      → Holds (b ∷ bs) (first_name (b ∷ bs) ∷ names)

pub holds : (n : ℕ) (bs : Bytes) → are_names n bs ≡ true → Holds bs (names_in n bs)
holds zero [] e = none
holds zero (b ∷ bs) e = absurd cc
holds (suc n) [] e = none
holds (suc n) (b ∷ bs) e = go (starts_name (b ∷ bs)) refl (holds n (after_name (b ∷ bs)))
  where
    go : (x : Bool) → starts_name (b ∷ bs) ≡ x
        → (are_names n (after_name (b ∷ bs)) ≡ true → Holds (after_name (b ∷ bs)) (names_in n (after_name (b ∷ bs))))
        → Holds (b ∷ bs) (names_in (suc n) (b ∷ bs))
    go true s h = more s (h (rw (s, are_names) at e))
    go false s h = let f = rw (s, are_names) at e in absurd cc

-- and back
pub holds_names : {bs : Bytes} {names : List Bytes} (n : ℕ) → Holds bs names → length names ≤ n
    → (are_names n bs ≡ true) × (names_in n bs ≡ names)
holds_names zero none h = (refl, refl)
holds_names (suc n) none h = (refl, refl)
holds_names zero (more s r) h = absurd (omega arith)
holds_names (suc n) (more {b = b} {bs = bs} {names = names} s r) h =
    let i = holds_names {bs = after_name (b ∷ bs)} {names = names} n r (omega arith) in (rw (s, are_names) i.0, rw i.1)

pub few : (n : ℕ) (bs : Bytes) → length (names_in n bs) ≤ n
few zero bs = omega arith
few (suc n) [] = omega arith
few (suc n) (b ∷ bs) = omega (arith, few n (after_name (b ∷ bs)))

module _ (bs : Bytes) where
  starts_is : starts_name bs ≡ (is_whole bs && is_name (first_name bs))
  unfolding starts_name is_whole
  starts_is = sym (and_assoc (leb 2 (length bs)) (leb (2 + u16_at bs 0) (length bs)) (is_name (first_name bs)))

  starts : starts_name bs ≡ true → (is_whole bs ≡ true) × (is_name (first_name bs) ≡ true)
  starts e = (and-eq-true_iff (is_whole bs) (is_name (first_name bs))).0 (sym starts_is ∙ e)

  unstarted : is_whole bs ≡ false → starts_name bs ≡ false
  unstarted e = rw (starts_is, e)

starts_as : {bs name after : Bytes} {good : Bool} → Split bs name after → good ≡ is_name name → starts_name bs ≡ good
starts_as {bs} s e = rw (starts_is bs, s.whole, ← s.first) (sym e)

-- the names that bytes hold are those that are whole, and short
pub whole_holds : {bs : Bytes} {names : List Bytes} → Holds bs names → whole_of bs ≡ names
whole_holds none = whole_none [] (none_whole [] (omega arith))
whole_holds (more {b = b} {bs = bs} s r) =
    whole_next (record { whole = (starts (b ∷ bs) s).0; first = refl; after = refl })
    ∙ ap (λ (names : List Bytes). first_name (b ∷ bs) ∷ names) (whole_holds r)

pub names_whole : (ns : Bytes) → is_namespace ns ≡ true → whole_of ns ≡ names_of ns
unfolding is_namespace names_of
names_whole ns e = whole_holds (holds 64 ns e)

pub whole_few : (ns : Bytes) → is_namespace ns ≡ true → length (whole_of ns) ≤ 64
unfolding names_of
whole_few ns e = omega (arith, ap length (names_whole ns e), few 64 ns)

unsplit : {name after : Bytes} → Split [] name after → ⊥
unsplit s = let e = sym s.whole ∙ none_whole [] (omega arith) in cc

-- what such bytes begin with
pub record Front (names : List Bytes) (name left : Bytes) : Type 0 where
  pub rest : List Bytes
  pub is : names ≡ name ∷ rest
  pub after : Holds left rest

pub front : {bs : Bytes} {names : List Bytes} {name after : Bytes} → Holds bs names → Split bs name after → Front names name after
front none p = absurd (unsplit p)
front (more {names = names} s r) p = record { rest = names; is = ap (λ (x : Bytes). x ∷ names) (sym p.first); after = rw p.after r }

pub short : {bs : Bytes} {names : List Bytes} {name after : Bytes} → Holds bs names → Split bs name after → length name ≤ 128
short none p = absurd (unsplit p)
short (more {b = b} {bs = bs} s r) p = rw p.first (name_short (first_name (b ∷ bs)) (starts (b ∷ bs) s).1)

pub at_end : {bs : Bytes} {names : List Bytes} → Holds bs names → is_whole bs ≡ false → names ≡ []
at_end none e = refl
at_end (more {b = b} {bs = bs} s r) e = let f = sym (starts (b ∷ bs) s).0 ∙ e in absurd cc

-- the check, which allows n more names
pub names_end : (n : ℕ) (bs : Bytes) → (n ≡ 0) ⊎ (is_whole bs ≡ false) → (length bs == 0) ≡ are_names n bs
names_end zero [] e = refl
names_end (suc n) [] e = refl
names_end zero (b ∷ bs) e = ne_eqb (suc (length bs)) 0 (λ z. omega arith)
names_end (suc n) (b ∷ bs) (inl z) = absurd (omega arith)
names_end (suc n) (b ∷ bs) (inr e) = ne_eqb (suc (length bs)) 0 (λ z. omega arith) ∙ rw (unstarted (b ∷ bs) e, are_names)

pub names_next : (n : ℕ) (bs : Bytes) {name after : Bytes} {good : Bool} → Split bs name after → good ≡ is_name name → good ≡ true
    → are_names (suc n) bs ≡ are_names n after
names_next n [] s e t = absurd (unsplit s)
names_next n (b ∷ bs) s e t = rw (starts_as s e ∙ t, are_names) (ap (are_names n) (sym s.after))

pub names_bad : (n : ℕ) (bs : Bytes) {name after : Bytes} {good : Bool} → Split bs name after → good ≡ is_name name → good ≡ false
    → are_names (suc n) bs ≡ false
names_bad n [] s e t = absurd (unsplit s)
names_bad n (b ∷ bs) s e t = rw (starts_as s e ∙ t, are_names)
