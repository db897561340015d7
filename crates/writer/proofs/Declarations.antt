-- The end of a declaration, its head, and declarations one after the other.
use Prim.Native.Nat.{ℕ, ◌≤◌, ◌<◌}
use mathlib.Core.Path.{◌≡◌, refl, ap, ◌∙◌}
use mathlib.Core.Bool.{Bool, true, false, not}
use mathlib.Core.List.{[], ◌∷◌, ◌++◌, append_assoc}
use native.Mathlib.Omega.{arith}
use lib.Dec.{eqb}
use lib.ListN.{length}
use Rattle.wire.specs.Bytes.{Bytes, bytes}
use Rattle.wire.specs.Pick.{pick}
use Rattle.wire.specs.Puts.{Puts}
use Rattle.wire.specs.declared.Writer.{Writer}
use Rattle.wire.proofs.Puts.{then, Rest, rest_all, rest_step, rest_none}
use Rattle.schema.specs.Kind.{s_deleted}
use Rattle.schema.specs.Payload.{is_declaration, is_deleted, name_of, after_name, indices_of}
use Rattle.schema.specs.Table.{is_inside, is_outside}
use Rattle.schema.specs.Decode.{comment_of, variant_of, deleted_of, declarations_of}
use Rattle.schema.specs.Walk.{records_from, kind_at, next_at, payload_at, token_at, WholeAt, Stands}
use Rattle.schema.proofs.Steps.{at_declaration, at_deleted}
use Rattle.schema.proofs.Walk.{record_at, records_end}
use Rattle.text.specs.Text.{blank, head_text, fields_text, deleted_text, declaration_text, declarations_text}
use Rattle.writer.specs.Parts.{declaration_at}
use Rattle.writer.specs.Steps.{Outside, Fielded, Fields, Ended, Declared}

-- a deleted record after the fields
pub record DeletedAt (t : Bytes) (at : ℕ) : Type 0 where
  pub whole : WholeAt t at
  pub right : is_deleted (payload_at t at) ≡ true
  pub deleted : deleted_of (records_from t at) ≡ indices_of (payload_at t at)
  pub later : declarations_of (records_from t at) ≡ declarations_of (records_from t (next_at t at))
  pub next : Outside t (next_at t at)

pub deleted_at : {t : Bytes} {at : ℕ} → Fielded t at → at < length t → kind_at t at ≡ s_deleted → DeletedAt t at
deleted_at {t} {at} f h e =
    let r = record_at f.stands h in
    let q = at_deleted (records_from t (next_at t at)) (token_at t at) e r.right in
    let s = r.next is_outside q.after in
    record {
      whole = r.whole;
      right = q.rule;
      deleted = ap deleted_of r.records ∙ q.deleted;
      later = ap declarations_of r.records ∙ q.declarations;
      next = record { may = is_outside; stands = s; begins = λ k. (record_at s k).allowed };
    }

module _ {t : Bytes} {at : ℕ} {fields : Bool} {w w' : Writer} where
  pub ended_deleted : {m : Writer} {next : ℕ} → DeletedAt t at → next ≡ next_at t at → Puts w (deleted_text fields (indices_of (payload_at t at))) m
      → Puts m (bytes "}\n") w' → Ended t at fields w next w'
  ended_deleted d e v q =
      let z = d.whole in
      rw e (record { put = rw d.deleted (then v q); outside = d.next; later = d.later; onward = omega arith })

  -- no index is deleted
  none : Fielded t at → (at < length t → eqb (kind_at t at) s_deleted ≡ false) → deleted_of (records_from t at) ≡ [] → Puts w (bytes "}\n") w'
      → Ended t at fields w at w'
  unfolding deleted_text pick
  none f k e q =
      record {
        put = rw e q;
        outside = record { may = is_inside; stands = f.stands; begins = λ h. rw (f.stopped h, k h) at (record_at f.stands h).allowed };
        later = refl;
        onward = omega arith;
      }

  pub ended_end : Fielded t at → length t ≤ at → Puts w (bytes "}\n") w' → Ended t at fields w at w'
  ended_end f h q = none f (λ k. absurd (omega arith)) (ap deleted_of (records_end t at h)) q

  pub ended_other : Fielded t at → at < length t → eqb (kind_at t at) s_deleted ≡ false → Puts w (bytes "}\n") w' → Ended t at fields w at w'
  ended_other f h e q =
      let r = record_at f.stands h in
      none f (λ k. e) (ap deleted_of r.records ∙ (at_declaration (records_from t (next_at t at)) (token_at t at) (rw (f.stopped h, e) at r.allowed)
      r.right).deleted) q

-- a declaration's head, and what it holds after it
pub record HeadAt (t : Bytes) (at : ℕ) : Type 0 where
  pub whole : WholeAt t at
  pub right : is_declaration (payload_at t at) ≡ true
  pub inside : Stands t (next_at t at) is_inside
  pub later : declarations_of (records_from t at) ≡ declaration_at t at ∷ declarations_of (records_from t (next_at t at))

pub head_at_lem : {t : Bytes} {at : ℕ} → Outside t at → at < length t → HeadAt t at
head_at_lem {t} {at} o h =
    let r = record_at o.stands h in
    let q = at_declaration (records_from t (next_at t at)) (token_at t at) (o.begins h) r.right in
    record { whole = r.whole; right = q.rule; inside = r.next is_inside q.after; later = ap declarations_of r.records ∙ q.declarations }

pub declared : {t : Bytes} {at : ℕ} {w m n w' : Writer} {end next : ℕ} → HeadAt t at
    → Puts w (head_text (comment_of (after_name (payload_at t at))) (variant_of (kind_at t at)) (name_of (payload_at t at))) m
    → Fields t (next_at t at) m end n → Ended t end (not (eqb end (next_at t at))) n next w' → Declared t at w next w'
unfolding declaration_text
declared {t} {at} h v f e =
    let z = h.whole in
    let x = f.onward in
    let y = e.onward in
    record {
      put = rw (f.some, f.deleted, append_assoc (head_text _ _ _ ++ fields_text _ _ _) (deleted_text _ _) (bytes "}\n")) (then (then v f.put) e.put);
      outside = e.outside;
      later = h.later ∙ rw (f.later, e.later);
      onward = omega arith;
    }

-- what is left of the declarations at a place
pub record Declaring (t : Bytes) (from : ℕ) (imported : Bool) (w₀ w : Writer) (at : ℕ) (parted : Bool) : Type 0 where
  pub outside : Outside t at
  pub left : Rest w (declarations_text parted (declarations_of (records_from t at))) w₀ (declarations_text imported (declarations_of (records_from t from)))

pub declaring_begin : {t : Bytes} {from : ℕ} {imported : Bool} {w : Writer} → Outside t from → Declaring t from imported w w from imported
declaring_begin s = record { outside = s; left = rest_all }

module _ {t : Bytes} {from : ℕ} {imported : Bool} {w₀ w : Writer} {at : ℕ} {parted : Bool} (g : Declaring t from imported w₀ w at parted) where
  pub declaring_more : {m w' : Writer} {next : ℕ} → Puts w (blank parted) m → Declared t at m next w' → Declaring t from imported w₀ w' next true
  declaring_more v d = record { outside = d.outside; left = rest_step (then v d.put) g.left (rw d.later) }

  pub declaring_done : length t ≤ at → Puts w₀ (declarations_text imported (declarations_of (records_from t from))) w
  declaring_done h = rest_none g.left (rw (records_end t at h))
