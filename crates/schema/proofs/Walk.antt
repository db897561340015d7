-- From record to record: at a place that stands in a table, what the record there is, and that the next place stands.
use Prim.Native.Nat.{ℕ, ◌+◌, ◌-◌, ◌≤◌, ◌<◌}
use mathlib.Core.Path.{◌≡◌, refl, sym, ◌∙◌}
use mathlib.Core.Bool.{Bool, true, and-eq-true_iff}
use mathlib.Core.List.{[], ◌∷◌}
use native.Mathlib.Nat.{zero-add}
use native.Mathlib.Omega.{arith}
use lib.ListN.{length, drop, length-drop, drop_of_length-le}
use lib.Seq.{drop-drop}
use Rattle.wire.specs.Bytes.{Bytes}
use Rattle.wire.specs.Le.{le_at, u16_at}
use Rattle.wire.specs.Pick.{pick}
use Rattle.token.specs.Table.{token_of}
use Rattle.schema.specs.Payload.{is_payload}
use Rattle.schema.specs.Table.{records_of, is_framed, may_follow, is_right, is_next, row_after, outset, is_schema_table}
use Rattle.schema.specs.Walk.{records_from, kind_at, next_at, payload_at, token_at, WholeAt, Stands}
use Rattle.schema.specs.Kind.{s_field}
use Rattle.schema.specs.Limits.{nesting}
use Rattle.schema.specs.Decode.{type_of}
use Rattle.schema.proofs.Records.{Whole, records_step, framed_step, framed_whole}
use Rattle.schema.proofs.Steps.{NextIs, next_is, at_field, nested}

module _ (t : Bytes) (at : ℕ) where
  pub token_is : token_of (drop at t) ≡ token_at t at
  unfolding token_of le_at
  token_is =
      let z : next_at t at - (at + 12) ≡ u16_at t at - 12 = omega arith in
      rw (z, drop-drop 2 at t, drop-drop 4 at t, drop-drop 8 at t, drop-drop 12 at t)

  pub whole_at : at < length t → Whole (drop at t) → WholeAt t at
  unfolding le_at
  whole_at h w =
      let a = w.head in
      let b = w.tail in
      let l = length-drop at t in
      record { head = omega arith; tail = omega arith }

  at_whole : WholeAt t at → Whole (drop at t)
  unfolding le_at
  at_whole w =
      let a = w.head in
      let b = w.tail in
      let l = length-drop at t in
      record { head = omega arith; tail = omega arith }

  -- a whole record is the first of those from its place on, and the others come after it
  pub records_at : WholeAt t at → records_from t at ≡ token_at t at ∷ records_from t (next_at t at)
  unfolding le_at
  records_at w = records_step (drop at t) (at_whole w) ∙ rw (token_is, drop-drop (u16_at t at) at t)

  pub framed_at : WholeAt t at → is_framed (drop at t) ≡ is_framed (drop (next_at t at) t)
  unfolding le_at
  framed_at w = framed_step (drop at t) (at_whole w) ∙ rw (drop-drop (u16_at t at) at t)

  pub records_end : length t ≤ at → records_from t at ≡ []
  unfolding records_of
  records_end h = rw (drop_of_length-le t h)

-- the check's verdict
pub stands_start : (t : Bytes) → is_schema_table t ≡ true → Stands t 0 (may_follow 0)
unfolding is_schema_table
stands_start t e =
    let f = (and-eq-true_iff (is_framed t) _).0 e in
    record { inside = omega arith; framed = f.0; before = outset; row = 0; follows = λ k. refl; right = f.1 }

pub end_may : {t : Bytes} {at : ℕ} {may : ℕ → Bool} → Stands t at may → length t ≤ at → may 0 ≡ true
end_may {t} {at} s h = sym (s.follows 0) ∙ rw (records_end t at h) at s.right

-- the record at a place where the table goes on
pub record Record (t : Bytes) (at : ℕ) (may : ℕ → Bool) : Type 0 where
  pub whole : WholeAt t at
  pub allowed : may (kind_at t at) ≡ true
  pub right : is_payload (kind_at t at) (payload_at t at) ≡ true
  pub records : records_from t at ≡ token_at t at ∷ records_from t (next_at t at)
  pub next : (then : ℕ → Bool) → ((k : ℕ) → may_follow (kind_at t at) k ≡ then k) → Stands t (next_at t at) then

pub record_at : {t : Bytes} {at : ℕ} {may : ℕ → Bool} → Stands t at may → at < length t → Record t at may
unfolding is_next is_right
record_at {t} {at} {may} s h =
    let l : length (drop at t) ≡ length t - at = length-drop at t in
    let w = whole_at t at h (framed_whole (drop at t) (omega arith) s.framed) in
    let rs = records_at t at w in
    let k = kind_at t at in
    let p = payload_at t at in
    let f = (and-eq-true_iff (is_next s.before s.row (token_at t at)) _).0 (rw rs at s.right) in
    let g = (and-eq-true_iff (is_right s.before.kind s.row k p) _).0 f.0 in
    let i = (and-eq-true_iff (may_follow s.before.kind k) _).0 g.0 in
    record {
      whole = w;
      allowed = sym (s.follows k) ∙ i.0;
      right = ((and-eq-true_iff (is_payload k p) _).0 i.1).0;
      records = rs;
      next = λ then e.
          record {
            inside = w.tail;
            framed = sym (framed_at t at w) ∙ s.framed;
            before = token_at t at;
            row = row_after s.row k;
            follows = e;
            right = f.1;
          };
    }

-- at most 64 arrays nest in the type after a field's record
row_field : (row k : ℕ) → k ≡ s_field → row_after row k ≡ 0
unfolding row_after pick
row_field row k e = rw e

pub type_nested : {t : Bytes} {at : ℕ} {may : ℕ → Bool} → Stands t at may → at < length t → kind_at t at ≡ s_field
    → nesting (type_of (records_from t (next_at t at))) ≤ 64
type_nested {t} {at} s h e =
    let r = record_at s h in
    let n : NextIs s.before s.row (token_at t at) (records_from t (next_at t at)) = next_is (rw r.records at s.right) in
    let f = at_field (records_from t (next_at t at)) (token_at t at) e r.right in
    rw zero-add at (nested (records_from t (next_at t at)) (token_at t at) 0 f.after (omega arith) (rw (row_field s.row (kind_at t at) e) at n.rest))
