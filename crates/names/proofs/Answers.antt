-- The answers: R10 where the input is bad, else R8 where the bytes don't fit, else their length.
use mathlib.Core.Path.{◌≡◌, sym, ◌∙◌}
use mathlib.Core.Bool.{Bool, true, false}
use mathlib.Core.List.{◌++◌}
use Prim.Native.Nat.{ℕ, ◌<◌, ◌≤◌, min}
use native.Mathlib.Nat.{zero-add}
use native.Mathlib.Omega.{arith}
use lib.ListN.{length, take, drop}
use borrow.Author.Tests.{le-leb, lt-leb}
use Rattle.std.specs.Prelude.{Result, Ok, Err, IsErrAnd}
use Rattle.wire.specs.Bytes.{Bytes}
use Rattle.wire.specs.Pick.{pick}
use Rattle.wire.specs.Put.{Wrote, laid}
use Rattle.wire.specs.Refusal.{refused_by}
use Rattle.wire.specs.declared.Refused.{Refused}
use Rattle.wire.specs.declared.Refusal.TheVariants.{NoRoom, NotAName}
use Rattle.wire.specs.Puts.{Puts}
use Rattle.wire.specs.declared.Writer.{Writer}
use Rattle.wire.proofs.Laws.{adv_is, over_fits}
use Rattle.identifier.specs.Forms.{IsForm}
use Rattle.identifier.specs.Name.{is_name}
use Rattle.identifier.proofs.Good.{name_short}
use Rattle.identifier.proofs.Filled.{front}
use Rattle.names.specs.Answer.{answer_of, buffer_of, Answers}

-- what a `?` passes on where a test of the input failed
pub refused : {A : Type 0} {good : Bool} {e : Refused} (x r : Result A Refused) → IsErrAnd r (λ y. y ≡ e) → (good ≡ false) × (e ≡ refused_by NotAName)
    → r ≡ pick good x (Err (refused_by NotAName))
unfolding pick
refused x (Ok a) p f = absurd p
refused x (Err y) p f = rw (f.0, p, f.1)

-- and what is answered where none did
pub answered : {A : Type 0} {good : Bool} {a b : A} (x : Result A Refused) → a ≡ b → good ≡ true → Ok a ≡ pick good (Ok b) x
unfolding pick
answered x e t = rw (t, e)

pub bad_input : {good k : Bool} {bs o : Bytes} {e : Refused} (r : Result ℕ Refused) → k ≡ good → IsErrAnd r (λ y. y ≡ e)
    → (k ≡ false) × (e ≡ refused_by NotAName) → Answers good bs o o r
unfolding answer_of buffer_of pick
bad_input r k p f = let g = sym k ∙ f.0 in record { answer = refused _ r p (g, f.1); buffer = rw g }

pub good_input : {good k : Bool} {bs o o' : Bytes} {r : Result ℕ Refused} → Answers true bs o o' r → k ≡ good → k ≡ true → Answers good bs o o' r
good_input a e t = let g = sym e ∙ t in rw g a

pub too_big : {bs o : Bytes} {refused : Refused} → refused ≡ refused_by NoRoom → length o < length bs → Answers true bs o o (Err refused)
unfolding answer_of buffer_of laid pick
too_big {bs} {o} r h = let e = lt-leb (length bs) (length o) h in record { answer = rw (e, r); buffer = rw e }

-- bytes that fit, at the front of the buffer
pub placed : {bs o o' : Bytes} → length bs ≤ length o → o' ≡ bs ++ drop (length bs) o → Answers true bs o o' (Ok (length bs))
unfolding answer_of buffer_of laid pick
placed {bs} {o} h w = let e = le-leb (length bs) (length o) h in record { answer = rw e; buffer = rw e w }

-- where all was put from the front of another buffer first, the place then is the length
measured : {bs : Bytes} {w w' : Writer} → w.at ≡ 0 → Puts w bs w' → w'.at ≡ min (length bs) 18446744073709551615
measured {bs} z p = rw z at p.wrote.place ∙ adv_is bs 0 (omega arith) ∙ rw zero-add

module _ {bs : Bytes} {w w' : Writer} (z : w.at ≡ 0) (p : Puts w bs w') where
  pub measured_big : (o : Bytes) → length o < w'.at → length o < length bs
  measured_big o h = omega (arith, measured z p)

  pub measured_fits : (o : Bytes) → length o < 18446744073709551615 → w'.at ≤ length o → length bs ≤ length o
  measured_fits o k h = omega (arith, measured z p)

-- bytes that fit, put by a writer that begins at the front
pub put_all : {bs o o' : Bytes} {w w' : Writer} → w.at ≡ 0 → w.out.now ≡ o → o' ≡ w'.out.now → length bs ≤ length o → length o ≤ 18446744073709551615
    → Puts w bs w' → Answers true bs o o' (Ok w'.at)
put_all {bs} {o} {o'} {w} {w'} z e e' h k p =
    let q : Wrote o 0 bs o' w'.at = rw (← z, ← e, e') p.wrote in
    let l : w'.at ≡ length bs = omega (arith, measured z p) in
    rw l (placed h (q.bytes ∙ over_fits bs o 0 (omega arith) k ∙ rw zero-add))

-- a form that was stored
pub stored : {good k : Bool} {bytes form o o' : Bytes} {len : ℕ} {r : Result ℕ Refused} → IsForm bytes len form → Answers true (take len bytes) o o' r
    → k ≡ good → k ≡ true → Answers good form o o' r
stored f a e t = good_input (rw (front f) at a) e t

pub short : (name : Bytes) {k : Bool} → k ≡ is_name name → k ≡ true → length name ≤ 128
short name e t = name_short name (sym e ∙ t)
