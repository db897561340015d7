-- The text of a whole table, and the answers of writing it.
use Prim.Native.Nat.{ℕ, ◌+◌, ◌-◌, ◌/◌, ◌<◌, ◌≤◌, min}
use mathlib.Core.Path.{◌≡◌, refl, ap, ◌∙◌}
use mathlib.Core.Bool.{Bool, true, false, not}
use mathlib.Core.Option.{Option, none, some}
use mathlib.Core.List.{[], ◌∷◌, ◌++◌}
use native.Mathlib.Nat.{zero-add}
use native.Mathlib.Omega.{arith}
use borrow.Author.Tests.{le-leb, le-ltb, eqb-true}
use lib.Dec.{ltb, eqb}
use lib.ListN.{length}
use Rattle.std.specs.Prelude.{Ok, Err}
use Rattle.wire.specs.Bytes.{Bytes}
use Rattle.wire.specs.Pick.{pick}
use Rattle.wire.specs.Put.{Wrote, laid}
use Rattle.wire.specs.Puts.{Puts}
use Rattle.wire.specs.Refusal.{refused_by}
use Rattle.wire.specs.declared.Refused.{Refused}
use Rattle.wire.specs.declared.Refusal.TheVariants.{TableTooLong, NoRoom, NotASchema}
use Rattle.wire.specs.declared.Writer.{Writer}
use Rattle.wire.proofs.Laws.{adv_is, over_fits, nothing, too_long, fits, written}
use Rattle.wire.proofs.Puts.{then}
use Rattle.wire.proofs.Numbers.{AllBytes}
use Rattle.schema.specs.Ast.{Schema}
use Rattle.schema.specs.Table.{is_framed, records_of, may_follow, is_schema_table}
use Rattle.schema.specs.Decode.{declarations_of, schema_of, decode_schema}
use Rattle.schema.specs.Walk.{records_from}
use Rattle.schema.specs.Checked.{answer_of, checked}
use Rattle.schema.proofs.Verdict.{Passed}
use Rattle.text.specs.Text.{is_empty, blank, opening_text, declarations_text, text_of}
use Rattle.text.proofs.Short.{table_short}
use Rattle.writer.specs.Steps.{Commented, Imported}
use Rattle.writer.specs.Written.{answer_to, left_by, Writes}

pub whole_text : {t : Bytes} {w m n w' : Writer} {first next : ℕ} → Commented t w first m → Imported t first m next n
    → Puts n (declarations_text (not (eqb next first)) (declarations_of (records_from t next))) w' → Puts w (text_of (schema_of (records_of t))) w'
unfolding text_of
whole_text a b p =
    then (then a.put (rw (← a.imports) at b.put)) (rw (← (ap is_empty a.imports ∙ b.some), ← (a.later ∙ b.later)) at p)

-- an empty table has an empty text
pub empty : (t o : Bytes) → eqb (length t) 0 ≡ true → Writes t o o (Ok 0)
unfolding text_of opening_text blank pick laid decode_schema is_schema_table is_framed records_of may_follow
empty [] o z = let l = le-leb 0 (length o) (omega arith) in record { answer = rw l; buffer = rw l }
empty (b ∷ bs) o z = absurd (omega (arith, eqb-true _ _ z))

pub table : (t : Bytes) → length t ≤ 131072 → is_schema_table t ≡ true → Passed t
unfolding decode_schema pick
table t h e = record { small = h; right = e; decodes = rw e }

-- what the check refuses is refused with its answer
pub refused : (t o : Bytes) (e : Refused) → checked t ≡ Err e → Writes t o o (Err e)
unfolding checked pick
refused t o e q =
    let f = go (ltb 131072 (length t)) (decode_schema t) q in
    record { answer = f.0; buffer = f.1 }
  where
    go : (b : Bool) (d : Option Schema) → pick b (Err (refused_by TableTooLong)) (answer_of d) ≡ Err e
        → (Err e ≡ pick b (Err (refused_by TableTooLong)) (answer_to (length o) d)) × (o ≡ pick b o (left_by o d))
    go true d q = let z : refused_by TableTooLong ≡ e = cc in (rw z, refl)
    go false none q = let z : refused_by NotASchema ≡ e = cc in (rw z, refl)
    go false (some s) q = let z : ◌≡◌ {A = ℕ} 0 1 = cc in absurd (omega arith)

-- measured on the empty part of the buffer, which leaves e there
module _ (t o : Bytes) {e : Bytes} {need : ℕ} (f : Passed t) (m : Wrote [] 0 (text_of (schema_of (records_of t))) e need)
    (k : length o < 18446744073709551616 - 1) where
  pub too_small : length (e ++ o) < need → Writes t o (e ++ o) (Err (refused_by NoRoom))
  unfolding laid pick
  too_small h =
      let l = too_long o m k h in
      record {
        answer = rw (le-ltb 131072 (length t) f.small, f.decodes, l);
        buffer = rw (le-ltb 131072 (length t) f.small, f.decodes, l) (nothing o m);
      }

  pub large_enough : {o' : Bytes} {r : ℕ} → need ≤ length (e ++ o) → Wrote (e ++ o) 0 (text_of (schema_of (records_of t))) o' r → Writes t o o' (Ok r)
  unfolding laid pick
  large_enough h w =
      let l = fits o m k h in
      let v = written o m k h w in
      record { answer = rw (le-ltb 131072 (length t) f.small, f.decodes, l, v.1); buffer = rw (le-ltb 131072 (length t) f.small, f.decodes, l) v.0 }

-- not measured, where four bytes for each byte of the table fit
pub surely_fits : (t o : Bytes) {o' : Bytes} {r : ℕ} → Passed t → AllBytes t → length o ≤ 18446744073709551615 → length t ≤ length o / 4
    → Wrote o 0 (text_of (schema_of (records_of t))) o' r
    → Writes t o o' (Ok r)
unfolding laid pick
surely_fits t o f a k h w =
    let text = text_of (schema_of (records_of t)) in
    let s : length text ≤ length o = omega (arith, table_short t a _ f.decodes) in
    let v = w.place ∙ adv_is text 0 (omega arith) in
    let n : min (0 + length text) 18446744073709551615 ≡ length text = omega arith in
    record {
      answer = rw (le-ltb 131072 (length t) f.small, f.decodes, le-leb (length text) (length o) s, v, n);
      buffer = rw (le-ltb 131072 (length t) f.small, f.decodes, le-leb (length text) (length o) s)
          (w.bytes ∙ over_fits text o 0 (omega arith) k ∙ rw zero-add);
    }
