-- The check, record by record.
use borrow.Author.Tests.{leb-true, ltb-false, not-false, lt-ltb, le-ltb}
use Prim.Native.Nat.{ℕ, zero, suc, ◌+◌, ◌-◌, ◌≤◌, ◌<◌}
use mathlib.Core.Path.{◌≡◌, refl, sym, ◌∙◌}
use mathlib.Core.Bool.{Bool, true, false, ◌&&◌, and-eq-true_iff}
use mathlib.Core.List.{[], ◌∷◌}
use native.Mathlib.Omega.{arith}
use native.Mathlib.Numerals.{sub-one}
use native.Mathlib.Nat.{zero-add, add-zero, sub_self}
use lib.Dec.{leb}
use lib.ListN.{length, drop, length-drop}
use Rattle.wire.specs.Bytes.{Bytes}
use Rattle.wire.specs.Pick.{pick}
use Rattle.token.specs.Token.{Token, end_of}
use Rattle.token.specs.Table.{size_of, token_of, is_whole, row_after, token_fault, fault_of, Decoded, refused, tokens, add_token, decode_from, decode}
use Rattle.token.specs.Fit.{Sound}
use Rattle.token.specs.Checked.{Told, answer_of, checked}
use Rattle.token.proofs.Laws.{at_least-length}

pub whole_is : (bs : Bytes) → is_whole bs ≡ (leb 12 (length bs) && (leb 12 (size_of bs) && leb (size_of bs) (length bs)))
unfolding is_whole
whole_is bs = rw (at_least-length 12 bs, at_least-length (size_of bs) bs)

-- the record at the front of these bytes lies inside them
pub record Fits (bs : Bytes) : Type 0 where
  pub head : 12 ≤ size_of bs
  pub tail : size_of bs ≤ length bs

pub fits : (bs : Bytes) → is_whole bs ≡ true → Fits bs
fits bs e =
    let a = ((and-eq-true_iff (leb 12 (length bs)) (leb 12 (size_of bs) && leb (size_of bs) (length bs))).0 (sym (whole_is bs) ∙ e)).1 in
    let b = (and-eq-true_iff (leb 12 (size_of bs)) (leb (size_of bs) (length bs))).0 a in
    record { head = leb-true 12 (size_of bs) b.0; tail = leb-true (size_of bs) (length bs) b.1 }

-- what a table decodes to, at its first record
module _ (at last row : ℕ) where
  pub decode_end : (n : ℕ) → decode_from n at last row [] ≡ tokens []
  unfolding decode_from
  decode_end zero = refl
  decode_end (suc n) = refl

  decode_none : (n : ℕ) (bs : Bytes) → length bs ≡ 0 → decode_from n at last row bs ≡ tokens []
  decode_none n [] h = decode_end n
  decode_none n (b ∷ bs) h = absurd (omega arith)

  pub decode_full : (bs : Bytes) → 0 < length bs → decode_from 0 at last row bs ≡ refused 6 at
  unfolding decode_from
  decode_full [] h = absurd (omega arith)
  decode_full (b ∷ bs) h = refl

  pub decode_bad : (n : ℕ) (bs : Bytes) → (n ≡ 0 → ⊥) → 0 < length bs → (f : ℕ) → f ≡ fault_of last row bs → (f ≡ 0 → ⊥)
      → decode_from n at last row bs ≡ refused f at
  unfolding decode_from
  decode_bad zero bs m h f e k = absurd (m refl)
  decode_bad (suc n) [] m h f e k = absurd (omega arith)
  decode_bad (suc n) (b ∷ bs) m h zero e k = absurd (k refl)
  decode_bad (suc n) (b ∷ bs) m h (suc f) e k = rw (← e, decode_from)

  pub decode_next : (n : ℕ) (bs : Bytes) → (n ≡ 0 → ⊥) → 0 < length bs → fault_of last row bs ≡ 0
      → decode_from n at last row bs ≡ add_token (token_of bs) (decode_from (n - 1) (at + size_of bs) (token_of bs).end (row_after row (token_of bs).kind)
      (drop (size_of bs) bs))
  unfolding decode_from
  decode_next zero bs m h e = absurd (m refl)
  decode_next (suc n) [] m h e = absurd (omega arith)
  decode_next (suc n) (b ∷ bs) m h e = rw (e, decode_from, sub-one)

-- no number: no test was met
pick-zero : (b : Bool) (k y : ℕ) → pick b (suc k) y ≡ 0 → (b ≡ false) × (y ≡ 0)
unfolding pick
pick-zero true k y e = absurd (omega arith)
pick-zero false k y e = (refl, e)

-- the record at the front of these bytes is good, after one that ends at `last` and `row` LeftSquares
pub record Good (last row : ℕ) (bs : Bytes) : Type 0 where
  pub fits : Fits bs
  pub sound : Sound last row (token_of bs)

-- both bounds of a test on two
pub bounds : (a x b y : ℕ) → (leb a x && leb b y) ≡ true → (a ≤ x) × (b ≤ y)
bounds a x b y e = let p = (and-eq-true_iff (leb a x) (leb b y)).0 e in (leb-true a x p.0, leb-true b y p.1)

sound : (last row : ℕ) (t : Token) → token_fault last row t ≡ 0 → Sound last row t
unfolding token_fault
sound last row t e =
    let k = pick-zero _ 2 _ e in
    let p = pick-zero _ 3 _ k.1 in
    let o = pick-zero _ 4 _ p.1 in
    let s = pick-zero _ 6 _ o.1 in
    record {
      known = bounds _ _ _ _ (not-false _ k.0);
      payload = not-false _ p.0;
      order = bounds _ _ _ _ (not-false _ o.0);
      shallow = ltb-false 64 _ s.0;
    }

pub good : (last row : ℕ) (bs : Bytes) → fault_of last row bs ≡ 0 → Good last row bs
unfolding fault_of
good last row bs e =
    let w = pick-zero _ 1 _ e in
    record { fits = fits bs (not-false _ w.0); sound = sound last row (token_of bs) w.1 }

-- an answer of which `count` tokens are known, the last of them ending at `last`
abbrev pub onto : ℕ → ℕ → Decoded → Told
onto count last (refused number at) = Told.refused number at
onto count last (tokens ts) = Told.fine (count + length ts) (end_of last ts)

onto_none : (d : Decoded) → onto 0 0 d ≡ answer_of d
onto_none (refused number at) = refl
onto_none (tokens ts) = rw zero-add

onto_add : (count last : ℕ) (t : Token) (d : Decoded) → onto count last (add_token t d) ≡ onto (count + 1) t.end d
onto_add count last t (refused number at) = refl
onto_add count last t (tokens ts) = let e : count + suc (length ts) ≡ count + 1 + length ts = omega arith in rw e

-- what is left of a table of `size` bytes, after `count` tokens, is being checked, and r is what the check answers
pub record Checking (size : ℕ) (rest : Bytes) (count last row : ℕ) (r : Told) : Type 0 where
  pub inside : length rest ≤ size
  pub few : count ≤ 4096
  pub shallow : row ≤ 64
  pub left : onto count last (decode_from (4096 - count) (size - length rest) last row rest) ≡ r

pub checked_large : (t : Bytes) → 65536 < length t → Told.refused 1 0 ≡ checked t
unfolding checked decode pick
checked_large t h = rw (lt-ltb 65536 (length t) h)

pub checking : (t : Bytes) → length t ≤ 65536 → Checking (length t) t 0 0 0 (checked t)
unfolding checked decode pick
checking t h = record {
  inside = omega arith;
  few = omega arith;
  shallow = omega arith;
  left = rw (le-ltb 65536 (length t) h, sub_self) (onto_none (decode_from 4096 0 0 0 t));
}

module _ {size : ℕ} {rest : Bytes} {count last row : ℕ} {r : Told} (s : Checking size rest count last row r) where
  pub checked_end : length rest ≡ 0 → Told.fine count last ≡ r
  checked_end h = rw (decode_none (size - length rest) last row (4096 - count) rest h, add-zero) at s.left

  module _ (h : 0 < length rest) where
    pub checked_full : count ≡ 4096 → Told.refused 6 (size - length rest) ≡ r
    checked_full e = rw (e, decode_full (size - length rest) last row rest h) at s.left

    module _ (m : count ≡ 4096 → ⊥) {f : ℕ} (e : f ≡ fault_of last row rest) where
      left_some : 4096 - count ≡ 0 → ⊥
      left_some z = m (omega (arith, s.few))

      pub checked_bad : (f ≡ 0 → ⊥) → Told.refused f (size - length rest) ≡ r
      checked_bad k = rw (decode_bad (size - length rest) last row (4096 - count) rest left_some h f e k) at s.left

      pub checked_less : f ≡ 0 → length (drop (size_of rest) rest) < length rest
      checked_less z =
          let g = (good last row rest (sym e ∙ z)).fits in
          let l = length-drop (size_of rest) rest in
          omega (arith, g.head, g.tail)

      pub checked_next : f ≡ 0 → Checking size (drop (size_of rest) rest) (count + 1) (token_of rest).end (row_after row (token_of rest).kind) r
      checked_next z =
          let g = good last row rest (sym e ∙ z) in
          let l = length-drop (size_of rest) rest in
          let k = g.fits.tail in
          let n : 4096 - (count + 1) ≡ 4096 - count - 1 = omega arith in
          let p : size - length (drop (size_of rest) rest) ≡ size - length rest + size_of rest = omega (arith, s.inside) in
          record {
            inside = omega (arith, s.inside);
            few = omega (arith, s.few, m);
            shallow = g.sound.shallow;
            left = rw (n, p) (rw (decode_next (size - length rest) last row (4096 - count) rest left_some h (sym e ∙ z), onto_add) at s.left);
          }
