-- The laws of a write: it can be done in parts, keeps the buffer's length, writes nothing past the end, and where all fits it is the bytes laid
-- over the buffer. At the end: what a public function learns that measures first and then writes or refuses with R8.
use mathlib.Core.Path.{◌≡◌, refl, sym, ap, ◌∙◌}
use mathlib.Core.List.{[], ◌∷◌, ◌++◌, append_assoc}
use mathlib.Core.Bool.{true, false}
use Prim.Native.Nat.{ℕ, suc, ◌+◌, ◌-◌, ◌≤◌, ◌<◌, min}
use native.Mathlib.Nat.{zero-add}
use native.Mathlib.Omega.{arith}
use lib.Dec.{leb}
use lib.ListN.{length, set, take, drop, length-set, length-take, take-append-drop}
use lib.Seq.{set_out, sets, sets-eq, drop-drop}
use borrow.Author.Tests.{le-leb, lt-leb}
use borrow.Rule.Slice.PartMut.{put_mid}
use Rattle.wire.specs.Bytes.{Bytes}
use Rattle.wire.specs.Put.{Wrote, over, adv, next}

pub over-append : (a b o : Bytes) (at : ℕ) → over (over o at a) (adv at a) b ≡ over o at (a ++ b)
unfolding over adv
over-append [] b o at = refl
over-append (x ∷ a) b o at = over-append a b (set o at x) (next at)

pub adv-append : (a b : Bytes) (at : ℕ) → adv (adv at a) b ≡ adv at (a ++ b)
unfolding adv
adv-append [] b at = refl
adv-append (x ∷ a) b at = adv-append a b (next at)

-- nothing written
pub wrote_none : {o : Bytes} {at : ℕ} → Wrote o at [] o at
unfolding over adv
wrote_none = record { bytes = refl; place = refl }

-- two writes, one after the other
pub then : {o : Bytes} {at : ℕ} {a o₁ : Bytes} {r₁ : ℕ} {b o₂ : Bytes} {r₂ : ℕ} → Wrote o at a o₁ r₁ → Wrote o₁ r₁ b o₂ r₂ → Wrote o at (a ++ b) o₂ r₂
then {o} {at} {a} {o₁} {r₁} {b} p q =
    record { bytes = q.bytes ∙ rw (p.bytes, p.place) (over-append a b o at); place = q.place ∙ rw p.place (adv-append a b at) }

-- the same, of bytes that the two parts make
pub parts : {o : Bytes} {at : ℕ} {a o₁ : Bytes} {r₁ : ℕ} {b o₂ : Bytes} {r₂ : ℕ} {bs : Bytes} → Wrote o at a o₁ r₁ → Wrote o₁ r₁ b o₂ r₂ → a ++ b ≡ bs
    → Wrote o at bs o₂ r₂
parts p q e = rw e at (then p q)

-- what is left to write takes the one buffer and place to where the other's would take it
pub record Rest (o : Bytes) (at : ℕ) (bs : Bytes) (o₀ : Bytes) (at₀ : ℕ) (all : Bytes) : Type 0 where
  pub bytes : over o at bs ≡ over o₀ at₀ all
  pub place : adv at bs ≡ adv at₀ all

pub rest_all : {o : Bytes} {at : ℕ} {bs : Bytes} → Rest o at bs o at bs
rest_all = record { bytes = refl; place = refl }

pub rest_step : {o : Bytes} {at : ℕ} {a o₁ : Bytes} {r₁ : ℕ} {b o₀ : Bytes} {at₀ : ℕ} {bs all : Bytes} → Wrote o at a o₁ r₁ → Rest o at bs o₀ at₀ all
    → bs ≡ a ++ b → Rest o₁ r₁ b o₀ at₀ all
rest_step {o} {at} {a} {b = b} p q e =
    record { bytes = rw (p.bytes, p.place, over-append a b o at, ← e) q.bytes; place = rw (p.place, adv-append a b at, ← e) q.place }

pub rest_none : {o : Bytes} {at : ℕ} {o₀ : Bytes} {at₀ : ℕ} {bs all : Bytes} → Rest o at bs o₀ at₀ all → bs ≡ [] → Wrote o₀ at₀ all o at
unfolding over adv
rest_none {o} {at} q e =
    let f : Rest o at [] _ _ _ = rw e at q in
    record { bytes = f.bytes; place = f.place }

pub over-length : (bs o : Bytes) (at : ℕ) → length (over o at bs) ≡ length o
unfolding over
over-length [] o at = refl
over-length (b ∷ bs) o at = over-length bs (set o at b) (next at) ∙ length-set o at b

-- a write keeps the length: what `same_length` asks, from what `returns` shows
pub wrote_length : {o : Bytes} {at : ℕ} {bs o' : Bytes} {r : ℕ} → Wrote o at bs o' r → length o' ≡ length o
wrote_length {o} {at} {bs} w = ap length w.bytes ∙ over-length bs o at

-- from the end on nothing is written
pub over_past : (bs o : Bytes) (at : ℕ) → length o ≤ at → length o ≤ 18446744073709551615 → over o at bs ≡ o
unfolding over
over_past [] o at h k = refl
over_past (b ∷ bs) o at h k = rw (set_out o at b) (over_past bs o (next at) (omega arith) k)

pub over_empty : (bs : Bytes) (at : ℕ) → over [] at bs ≡ []
unfolding over
over_empty [] at = refl
over_empty (b ∷ bs) at = over_empty bs (next at)

-- the place stops at the largest usize
pub adv_is : (bs : Bytes) (at : ℕ) → at ≤ 18446744073709551615 → adv at bs ≡ min (at + length bs) 18446744073709551615
unfolding adv
adv_is [] at h = omega arith
adv_is (b ∷ bs) at h = adv_is bs (next at) (omega arith) ∙ omega arith

over_sets : (bs o : Bytes) (at : ℕ) → at + length bs ≤ length o → length o ≤ 18446744073709551615 → over o at bs ≡ sets o at bs
unfolding over
over_sets [] o at h k = refl
over_sets (b ∷ bs) o at h k =
    let e : next at ≡ suc at = omega arith in
    let l : length (set o at b) ≡ length o = length-set o at b in
    rw e (over_sets bs (set o at b) (suc at) (omega arith) (omega arith))

pub over_fits : (bs o : Bytes) (at : ℕ) → at + length bs ≤ length o → length o ≤ 18446744073709551615
    → over o at bs ≡ take at o ++ bs ++ drop (at + length bs) o
over_fits bs o at h k = over_sets bs o at h k ∙ sets-eq bs o at h

-- The three ways of laying bytes where room is tested once: all lies past the end (`over_past`), all fits, or what fits is laid. `put_mid at k o x` is
-- o after a part of k bytes from `at` on was lent and came back as x.
pub over_whole : (o : Bytes) (at : ℕ) (bs : Bytes) → at + length bs ≤ length o → length o ≤ 18446744073709551615
    → put_mid at (at + length bs - at) o bs ≡ over o at bs
over_whole o at bs h small =
    let l : at + length bs - at ≡ length bs = omega arith in
    ap (λ (k : ℕ). put_mid at k o bs) l ∙ rw (drop-drop, ← append_assoc) (sym (over_fits bs o at h small))

pub over_clipped : (o : Bytes) (at : ℕ) (bs : Bytes) → at ≤ length o → length o - at ≤ length bs → length o ≤ 18446744073709551615
    → put_mid at (length o - at) o (take (length o - at) bs) ≡ over o at bs
over_clipped o at bs h f small =
    let room = length o - at in
    let front = take room bs in
    let l : room ≡ length front = omega (arith, length-take room bs) in
    let past : over (over o at front) (adv at front) (drop room bs) ≡ over o at front =
    over_past (drop room bs) (over o at front) (adv at front) (omega (arith, over-length front o at, adv_is front at (omega arith)))
    (omega (arith, over-length front o at)) in
    let all : over (over o at front) (adv at front) (drop room bs) ≡ over o at bs =
    over-append front (drop room bs) o at ∙ ap (over o at) (take-append-drop room bs) in
    let lent : put_mid at room o front ≡ over o at front =
    ap (λ (k : ℕ). put_mid at k o front) l ∙ rw (drop-drop, ← append_assoc) (sym (over_fits front o at (omega arith) small)) in
    lent ∙ sym past ∙ all

-- the same of a whole writer
module _ (o : Bytes) (at : ℕ) (bs : Bytes) (small : length o ≤ 18446744073709551615) (here : at ≤ 18446744073709551615) where
  pub wrote_past : {r : ℕ} → length o ≤ at → r ≡ min (at + length bs) 18446744073709551615 → Wrote o at bs o r
  wrote_past h p = record { bytes = sym (over_past bs o at h small); place = p ∙ sym (adv_is bs at here) }

  pub wrote_whole : (end : ℕ) {x : Bytes} → end ≤ length o → end ≡ at + length bs → x ≡ bs → Wrote o at bs (put_mid at (end - at) o x) end
  wrote_whole end h q p = record { bytes = rw (p, q) (over_whole o at bs (omega arith) small); place = omega (arith, adv_is bs at here) }

  pub wrote_clipped : {r : ℕ} {x : Bytes} → at ≤ length o → length o - at ≤ length bs → x ≡ take (length o - at) bs
      → r ≡ min (at + length bs) 18446744073709551615
      → Wrote o at bs (put_mid at (length o - at) o x) r
  wrote_clipped h f p q = record { bytes = rw p (over_clipped o at bs h f small); place = q ∙ sym (adv_is bs at here) }

-- What a public function learns that first writes into the empty part of its buffer o, which leaves e there: nothing changed, and whether the
-- bytes fit. Its tests are of the buffer as it is then, e ++ o.
pub nothing : (o : Bytes) {bs e : Bytes} {need : ℕ} → Wrote [] 0 bs e need → e ++ o ≡ o
nothing o {bs} m = rw (m.bytes, over_empty bs 0)

module _ (o : Bytes) {bs e : Bytes} {need : ℕ} (m : Wrote [] 0 bs e need) (k : length o < 18446744073709551616 - 1) where
  need_is : need ≡ min (length bs) 18446744073709551615
  need_is = m.place ∙ adv_is bs 0 (omega arith) ∙ rw zero-add

  same_size : length (e ++ o) ≡ length o
  same_size = ap length (nothing o m)

  pub too_long : length (e ++ o) < need → leb (length bs) (length o) ≡ false
  too_long h = lt-leb (length bs) (length o) (omega (arith, need_is, same_size))

  fits_le : need ≤ length (e ++ o) → length bs ≤ length o
  fits_le h = omega (arith, need_is, same_size)

  pub fits : need ≤ length (e ++ o) → leb (length bs) (length o) ≡ true
  fits h = le-leb _ _ (fits_le h)

  pub written : {o' : Bytes} {r : ℕ} → need ≤ length (e ++ o) → Wrote (e ++ o) 0 bs o' r → (o' ≡ bs ++ drop (length bs) o) × (r ≡ length bs)
  written h w =
      let f : length bs ≤ length o = fits_le h in
      let a : adv 0 bs ≡ min (0 + length bs) 18446744073709551615 = adv_is bs 0 (omega arith) in
      let b = rw (nothing o m) at w.bytes in
      (b ∙ over_fits bs o 0 (omega arith) (omega arith) ∙ rw zero-add, w.place ∙ omega arith)
