-- The refusals of writing and of the functions on names: their numbers, their offset, and the buffer as it was.
use Prim.Native.Nat.{ℕ}
use mathlib.Core.Path.{◌≡◌, refl, ◌∙◌}
use mathlib.Core.Bool.{Bool, true, false}
use mathlib.Core.Option.{Option, none, some}
use mathlib.Core.Logic.{◌⊎◌, inl, inr}
use lib.Dec.{leb, ltb}
use lib.ListN.{length}
use Rattle.std.specs.Prelude.{Result, Ok, Err}
use Rattle.wire.specs.Bytes.{Bytes}
use Rattle.wire.specs.Pick.{pick}
use Rattle.wire.specs.Put.{laid}
use Rattle.wire.specs.Refusal.{number_of, refused_by}
use Rattle.wire.specs.declared.Refused.{Refused}
use Rattle.wire.specs.declared.Refusal.TheVariants.{TableTooLong, NoRoom}
use Rattle.schema.specs.Ast.{Schema}
use Rattle.schema.specs.Decode.{decode_schema}
use Rattle.text.specs.Text.{text_of}
use Rattle.writer.specs.Written.{answer_to, left_by, Writes}
use Rattle.names.specs.Answer.{answer_of, buffer_of, Answers, with_steps, Relatives}
use Rattle.demands.specs.Outcome.{Refusal}

-- a refusal that is known tells its number and its offset
refused_as : {e : Refused} (f : Refused) → ◌≡◌ {A = Result ℕ Refused} (Err e) (Err f) → e ≡ f
refused_as f h = cc

write_fits : (out : Bytes) (text : Bytes) (b : Bool) {e : Refused} → Err e ≡ pick b (Ok (length text)) (Err (refused_by NoRoom))
    → leb (length text) (length out) ≡ b
    → (e ≡ refused_by NoRoom) × (laid out text ≡ out)
unfolding pick laid
write_fits out text true h l = absurd cc
write_fits out text false h l = (refused_as _ h, rw l)

pub write_refusal : {t out out' : Bytes} {e : Refused} → Writes t out out' (Err e)
    → Refusal ((number_of e.refusal ≡ 1) ⊎ ((number_of e.refusal ≡ 9) ⊎ (number_of e.refusal ≡ 8))) e.offset out out'
unfolding pick
write_refusal {t} {out} {out'} {e} p = go (ltb 131072 (length t)) (decode_schema t) p.answer p.buffer
  where
    go : (b : Bool) (d : Option Schema) → Err e ≡ pick b (Err (refused_by TableTooLong)) (answer_to (length out) d) → out' ≡ pick b out (left_by out d)
        → Refusal ((number_of e.refusal ≡ 1) ⊎ ((number_of e.refusal ≡ 9) ⊎ (number_of e.refusal ≡ 8))) e.offset out out'
    go true d a b = let q = refused_as _ a in record { number = inl (rw q); offset = rw q; buffer = b }
    go false none a b = let q = refused_as _ a in record { number = inr (inl (rw q)); offset = rw q; buffer = b }
    go false (some s) a b =
        let (q, f) = write_fits out (text_of s) (leb (length (text_of s)) (length out)) a refl in
        record { number = inr (inr (rw q)); offset = rw q; buffer = b ∙ f }

name_refused : (good : Bool) (bs out : Bytes) {e : Refused} → Err e ≡ answer_of good bs out
    → Refusal ((number_of e.refusal ≡ 10) ⊎ (number_of e.refusal ≡ 8)) e.offset out (buffer_of good bs out)
unfolding answer_of buffer_of laid pick
name_refused false bs out {e} a = let q = refused_as _ a in record { number = inl (rw q); offset = rw q; buffer = refl }
name_refused true bs out {e} a = go (leb (length bs) (length out)) refl
  where
    go : (b : Bool) → leb (length bs) (length out) ≡ b → Refusal ((number_of e.refusal ≡ 10) ⊎ (number_of e.refusal ≡ 8)) e.offset out (laid out bs)
    go true t = let h = rw t at a in absurd cc
    go false t = let q = refused_as _ (rw t at a) in record { number = inr (rw q); offset = rw q; buffer = rw t }

pub name_refusal : {good : Bool} {bs out out' : Bytes} {e : Refused} → Answers good bs out out' (Err e)
    → Refusal ((number_of e.refusal ≡ 10) ⊎ (number_of e.refusal ≡ 8)) e.offset out out'
name_refusal {good} {bs} {out} p = rw p.buffer (name_refused good bs out p.answer)

with_refused : (up : ℕ) (a : Result ℕ Refused) {e : Refused} → Err e ≡ with_steps up a → Err e ≡ a
with_refused up (Ok k) h = absurd cc
with_refused up (Err f) {e} h = let q : e ≡ f = cc in rw q

pub relative_refusal : {good : Bool} {bs out out' : Bytes} {up : ℕ} {e : Refused} → Relatives good bs up out out' (Err e)
    → Refusal ((number_of e.refusal ≡ 10) ⊎ (number_of e.refusal ≡ 8)) e.offset out out'
relative_refusal {good} {bs} {out} {up = up} p = rw p.buffer (name_refused good bs out (with_refused up (answer_of good bs out) p.answer))
