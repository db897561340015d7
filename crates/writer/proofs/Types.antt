-- A type's records: arrays, and then a plain type or a custom one.
use Prim.Native.Nat.{ℕ, zero, suc, ◌+◌, ◌-◌, ◌*◌, ◌<◌}
use mathlib.Core.Path.{◌≡◌, refl, ap, ◌∙◌}
use mathlib.Core.Bool.{Bool, true, false, ◌&&◌}
use mathlib.Core.List.{List}
use native.Mathlib.Omega.{arith, not-le}
use borrow.Author.Tests.{ne_eqb, eqb-true, eqb-false}
use lib.Dec.{eqb}
use lib.ListN.{length, drop, length-take, length-drop}
use Rattle.wire.specs.Bytes.{Bytes}
use Rattle.wire.specs.Le.{u16_at}
use Rattle.wire.specs.Pick.{pick}
use Rattle.token.specs.Kind.{k_unit}
use Rattle.token.specs.Token.{Token}
use Rattle.schema.specs.Ast.{TypeVariant, array}
use Rattle.schema.specs.Kind.{s_array, s_plain, s_custom}
use Rattle.schema.specs.Limits.{nesting}
use Rattle.schema.specs.Payload.{is_plain_type, is_custom}
use Rattle.schema.specs.Table.{is_type, is_inside}
use Rattle.schema.specs.Decode.{range_of, type_of, fields_of, deleted_of, declarations_of}
use Rattle.schema.specs.Walk.{records_from, kind_at, next_at, payload_at, token_at, WholeAt, Stands}
use Rattle.schema.proofs.Steps.{either, AtType, at_array, at_plain, at_custom}
use Rattle.schema.proofs.Walk.{Record, record_at, end_may}
use Rattle.text.specs.Text.{type_text, is_unit}
use Rattle.writer.specs.Parts.{type_at, depth_at, is_base, base_text}

-- where a kind must stand, the table goes on
goes_on : {t : Bytes} {at : ℕ} {may : ℕ → Bool} → Stands t at may → may 0 ≡ false → at < length t
goes_on {t} {at} s e = not-le (length t) at (λ h. let z : ◌≡◌ {A = ℕ} 0 1 = cc (end_may s h) in omega arith)

pub type_record : {t : Bytes} {at : ℕ} → Stands t at is_type → Record t at is_type
type_record s = record_at s (goes_on s refl)

-- the records between two places add nothing to the fields, the deleted indices and the declarations
pub record Past (a b : List Token) : Type 0 where
  pub fields : fields_of a ≡ fields_of b
  pub deleted : deleted_of a ≡ deleted_of b
  pub later : declarations_of a ≡ declarations_of b

past_then : {a b c : List Token} → Past a b → Past b c → Past a c
past_then p q = record { fields = p.fields ∙ q.fields; deleted = p.deleted ∙ q.deleted; later = p.later ∙ q.later }

past_type : {t : Bytes} {at : ℕ} {may then : ℕ → Bool} {rule : Bytes → Bool} {type : TypeVariant} → Record t at may
    → AtType (token_at t at) (records_from t (next_at t at)) rule then type → Past (records_from t at) (records_from t (next_at t at))
past_type r q = rw r.records (record { fields = q.fields; deleted = q.deleted; later = q.declarations })

pub record ArrayAt (t : Bytes) (at : ℕ) : Type 0 where
  pub inner : Stands t (at + 12) is_type
  pub type : type_at t at ≡ array (range_of (token_at t at)) (type_at t (at + 12))
  pub past : Past (records_from t at) (records_from t (at + 12))

pub array_at : {t : Bytes} {at : ℕ} → Stands t at is_type → kind_at t at ≡ s_array → ArrayAt t at
array_at {t} {at} s e =
    let r = type_record s in
    let q = at_array (records_from t (next_at t at)) (token_at t at) e r.right in
    let w = r.whole in
    let none = eqb-true (length (payload_at t at)) 0 q.right in
    let n : next_at t at ≡ at + 12 = omega (arith, w, length-take (next_at t at - (at + 12)) (drop (at + 12) t), length-drop (at + 12) t) in
    record { inner = rw n at (r.next is_type q.after); type = ap type_of r.records ∙ q.is ∙ rw n; past = rw n at (past_type r q) }

-- an array has one more than what it holds
pub one_less : {t : Bytes} {at left : ℕ} → Stands t at is_type → kind_at t at ≡ s_array → left ≡ depth_at t at → left ≡ depth_at t (at + 12) + 1
one_less s e d = omega (arith, d, ap nesting (array_at s e).type)

pub record BaseAt (t : Bytes) (at : ℕ) : Type 0 where
  pub depth : depth_at t at ≡ 0
  pub text : type_text (type_at t at) ≡ base_text (kind_at t at) (payload_at t at)
  pub right : is_base (kind_at t at) (payload_at t at) ≡ true
  pub unit : is_unit (type_at t at) ≡ (eqb (kind_at t at) s_plain && eqb (u16_at (payload_at t at) 0) k_unit)
  pub next : Stands t (next_at t at) is_inside
  pub past : Past (records_from t at) (records_from t (next_at t at))

module _ {t : Bytes} {at : ℕ} (s : Stands t at is_type) where
  base_plain : kind_at t at ≡ s_plain → BaseAt t at
  unfolding is_base base_text pick
  base_plain e =
      let r = type_record s in
      let q = at_plain (records_from t (next_at t at)) (token_at t at) e r.right in
      let y = ap type_of r.records ∙ q.is in
      record {
        depth = ap nesting y;
        text = ap type_text y ∙ rw e;
        right = rw e q.right;
        unit = ap is_unit y ∙ rw e;
        next = r.next is_inside q.after;
        past = past_type r q;
      }

  base_custom : kind_at t at ≡ s_custom → BaseAt t at
  unfolding is_base base_text pick
  base_custom e =
      let r = type_record s in
      let q = at_custom (records_from t (next_at t at)) (token_at t at) e r.right in
      let y = ap type_of r.records ∙ q.is in
      record {
        depth = ap nesting y;
        text = ap type_text y ∙ rw e;
        right = rw e q.right;
        unit = ap is_unit y ∙ rw e;
        next = r.next is_inside q.after;
        past = past_type r q;
      }

  pub base_at_lem : (kind_at t at ≡ s_array → ⊥) → BaseAt t at
  base_at_lem e =
      either (eqb (kind_at t at) s_array) _ (type_record s).allowed (λ q. absurd (e (eqb-true _ _ q)))
      (λ h. either (eqb (kind_at t at) s_plain) _ h (λ q. base_plain (eqb-true _ _ q)) (λ q. base_custom (eqb-true _ _ q)))

  pub unit_at : is_unit (type_at t at) ≡ (eqb (kind_at t at) s_plain && eqb (u16_at (payload_at t at) 0) k_unit)
  unit_at = go (eqb (kind_at t at) s_array) refl
    where
      go : (b : Bool) → eqb (kind_at t at) s_array ≡ b → is_unit (type_at t at) ≡ (eqb (kind_at t at) s_plain && eqb (u16_at (payload_at t at) 0) k_unit)
      go true q =
          let e = eqb-true (kind_at t at) s_array q in
          ap is_unit (array_at s e).type ∙ rw e
      go false q = (base_at_lem (eqb-false _ _ q)).unit

  pub plain_at : kind_at t at ≡ s_plain → is_plain_type (payload_at t at) ≡ true
  plain_at e = (at_plain (records_from t (next_at t at)) (token_at t at) e (type_record s).right).right

pub plain_base : {k : ℕ} (p : Bytes) → k ≡ s_plain → is_base k p ≡ true → is_plain_type p ≡ true
unfolding is_base pick
plain_base p e h = rw e at h

pub custom_base : {k : ℕ} (p : Bytes) → (k ≡ s_plain → ⊥) → is_base k p ≡ true → is_custom p ≡ true
unfolding is_base pick
custom_base {k} p e h = rw (ne_eqb k s_plain e) at h

-- the search for the type inside all arrays
pub record Deeper (t : Bytes) (from at : ℕ) : Type 0 where
  pub stands : Stands t at is_type
  pub depth : at + 12 * depth_at t at ≡ from + 12 * depth_at t from

pub deeper_begin : {t : Bytes} {at : ℕ} → Stands t at is_type → Deeper t at at
deeper_begin s = record { stands = s; depth = refl }

pub deeper_more : {t : Bytes} {from at : ℕ} → Deeper t from at → kind_at t at ≡ s_array → Deeper t from (at + 12)
deeper_more d e =
    let a = array_at d.stands e in
    record { stands = a.inner; depth = omega (arith, d.depth, ap nesting a.type) }

pub deeper_done : {t : Bytes} {from at : ℕ} → Deeper t from at → (kind_at t at ≡ s_array → ⊥) → at ≡ from + 12 * depth_at t from
deeper_done d e = omega (arith, d.depth, (base_at_lem d.stands e).depth)

-- past a type: `inner` is the place of the type inside its arrays
pub record Typed (t : Bytes) (at inner : ℕ) : Type 0 where
  pub whole : WholeAt t inner
  pub next : Stands t (next_at t inner) is_inside
  pub past : Past (records_from t at) (records_from t (next_at t inner))

pub typed : (d : ℕ) {t : Bytes} {at inner : ℕ} → Stands t at is_type → d ≡ depth_at t at → inner ≡ at + 12 * d → Typed t at inner
typed zero {t} {at} {inner} s e i =
    let b = base_at_lem s (λ q. omega (arith, one_less s q e)) in
    let j : inner ≡ at = omega arith in
    rw j (record { whole = (type_record s).whole; next = b.next; past = b.past })
typed (suc d) {t} {at} {inner} s e i = go (eqb (kind_at t at) s_array) refl (λ u f j. typed d u f j)
  where
    go : (b : Bool) → eqb (kind_at t at) s_array ≡ b → (Stands t (at + 12) is_type → d ≡ depth_at t (at + 12) → inner ≡ at + 12 + 12 * d → Typed t (at + 12) inner)
        → Typed t at inner
    go true q inside =
        let k = eqb-true (kind_at t at) s_array q in
        let a = array_at s k in
        let y = inside a.inner (omega (arith, one_less s k e)) (omega arith) in
        record { whole = y.whole; next = y.next; past = past_then a.past y.past }
    go false q inside = absurd (omega (arith, e, (base_at_lem s (eqb-false (kind_at t at) s_array q)).depth))
