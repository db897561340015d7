-- A form that is put into an array of 256 zeros fills the front of it: there is always room, and zeros stand behind.
use mathlib.Core.Path.{◌≡◌, ap, sym, ◌∙◌}
use mathlib.Core.List.{◌++◌}
use Prim.Native.Nat.{ℕ, ◌+◌, ◌-◌, ◌≤◌}
use native.Mathlib.Nat.{zero-add}
use native.Mathlib.Omega.{arith}
use lib.ListN.{length, take, drop, replicate, length-append}
use lib.Seq.{take-append_seam}
use Rattle.std.proofs.lemmas.List.{drop-replicate}
use Rattle.wire.specs.Bytes.{Bytes}
use Rattle.wire.specs.Put.{Wrote}
use Rattle.wire.specs.Puts.{Puts}
use Rattle.wire.specs.declared.Writer.{Writer}
use Rattle.wire.proofs.Laws.{adv_is, over_fits}
use Rattle.identifier.specs.Forms.{IsForm}
use Rattle.identifier.specs.Left.{form_of}
use Rattle.identifier.specs.declared.form_bytes.Case.{Case}
use Rattle.identifier.proofs.Length.{case_short}

module _ (case : Case) (name : Bytes) (short : length name ≤ 128) where
  few : length (form_of case name) ≤ 255
  few = omega (arith, case_short case name)

  behind : drop {A = ℕ} (0 + length (form_of case name)) (replicate 256 0) ≡ replicate (256 - length (form_of case name)) 0
  behind = rw zero-add (drop-replicate (length (form_of case name)) 256 0)

  pub formed : {w w' : Writer} → w.out.now ≡ replicate 256 0 → w.at ≡ 0 → Puts w (form_of case name) w' → {bytes : Bytes} → bytes ≡ w'.out.now
      → IsForm bytes w'.at (form_of case name)
  formed {w' = w'} zeros front put same =
      let form = form_of case name in
      let whole : Wrote (replicate 256 0) 0 form w'.out.now w'.at = rw (zeros, front) at put.wrote in
      let place = whole.place ∙ adv_is form 0 (omega arith) in
      record {
        size = omega (arith, place, few);
        filled = same ∙ whole.bytes ∙ over_fits form (replicate 256 0) 0 (omega (arith, few)) (omega arith) ∙ ap (λ l. form ++ l) behind;
        fits = omega (arith, place, few);
      }

-- what a caller has of a form: its bytes are the front of the array
module _ {bytes : Bytes} {len : ℕ} {form : Bytes} (h : IsForm bytes len form) where
  pub front : take len bytes ≡ form
  front = rw (h.size, h.filled) (take-append_seam form _)

  pub inside : len ≤ length bytes
  inside = rw (h.size, h.filled, length-append) (omega arith)

  pub counted : len ≡ length (take len bytes)
  counted = h.size ∙ ap length (sym front)
