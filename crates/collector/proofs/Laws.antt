-- The numbers of a collector: after the imports and the declarations its length is the list's, and so is its count.
use Prim.Native.Nat.{ℕ, ◌+◌, ◌*◌, ◌^◌, ◌≤◌, ◌<◌, min}
use mathlib.Core.Path.{◌≡◌, ap, ◌∙◌}
use mathlib.Core.List.{List}
use native.Mathlib.Omega.{arith}
use lib.ListN.{length}
use Rattle.wire.specs.Bytes.{Bytes}
use Rattle.wire.specs.Put.{Wrote}
use Rattle.wire.proofs.Laws.{adv_is}
use Rattle.token.specs.Places.{tokens_from}
use Rattle.token.proofs.Walk.{wf_few}
use Rattle.grammar.specs.Error.{Error, errors_bytes}
use Rattle.grammar.proofs.Count.{errors_length, errors_at_most_tokens}
use Rattle.judge.specs.Judges.{Room, Judgeable}
use Rattle.judge.proofs.Opening.{imports_room, schema_judged}
use Rattle.collector.specs.Collected.{Collected, Counts, Grows, grown_to, none, ImportsPushed, DeclarationsPushed}
use Rattle.collector.specs.declared.Collector.{Collector}
use Rattle.parser.specs.declared.Cursor.{Cursor}

-- the end of a list of errors that begins at `at`
end_is : {o o' : Bytes} {at r : ℕ} (es : List Error) → Wrote o at (errors_bytes es) o' r → at ≤ 18446744073709551615
    → r ≡ min (at + 14 * length es) 18446744073709551615
end_is {o} {o'} {at} {r} es w h = omega (arith, w.place, adv_is (errors_bytes es) at h, errors_length es)

-- two lists, one after the other
module _ (es ds : List Error) {o o₁ o₂ : Bytes} {out to : ℕ} (v : Wrote o 0 (errors_bytes es) o₁ out) (w : Wrote o₁ out (errors_bytes ds) o₂ to) where
  first_end : out ≡ min (14 * length es) 18446744073709551615
  first_end = omega (arith, end_is es v (omega arith))

  second_end : to ≡ min (out + 14 * length ds) 18446744073709551615
  second_end = end_is ds w (omega (arith, first_end))

  -- that are a short one
  count_is : (all : List Error) → Wrote o 0 (errors_bytes all) o₂ to → length all ≤ 4096 → (grown_to (grown_to none out) to).count ≡ length all
  count_is all u few = omega (arith, first_end, second_end, end_is all u (omega arith))

-- the end of a list doesn't fall
pub grows : {c : Collector} {o o' : Bytes} {to : ℕ} (es : List Error) → Counts c → c.length < 2 ^ 64 → Wrote o c.length (errors_bytes es) o' to → Grows c to
grows es few fits w = record { few = few; on = omega (arith, fits, end_is es w (omega (arith, fits))) }

module _ {t : Bytes} {end : ℕ} {o o₁ : Bytes} {c₁ : Collector} {next : Cursor} (v : ImportsPushed t end o none o₁ c₁ next) where
  pub first_counts : Counts c₁
  first_counts = omega (arith, ap (λ (c : Collector). c.count) v.grown)

  pub room_after : {items spare items' spare' : List ℕ} → Judgeable t end items spare → length items' ≡ length items → length spare' ≡ length spare
      → Room t next items' spare'
  room_after p x y = imports_room p.room v.wrote.before end v.wrote.rest v.wrote.wf x y

  pub collected : {o₂ : Bytes} {c₂ : Collector} {items spare : List ℕ} → DeclarationsPushed t next end o₁ c₁ o₂ c₂ → Judgeable t end items spare
      → Collected t o o₂ c₂
  collected {c₂ = c₂} w p =
      let all = schema_judged next p.last v.wrote.before v.wrote.wrote v.wrote.rest w.wrote in
      let n = count_is _ _ v.wrote.wrote w.wrote _ all (omega (arith, wf_few p.room.wf, errors_at_most_tokens (tokens_from t 0))) in
      record { wrote = all; number = ap (λ (c : Collector). c.count) w.grown ∙ ap (λ (c : Collector). (grown_to c c₂.length).count) v.grown ∙ n }
