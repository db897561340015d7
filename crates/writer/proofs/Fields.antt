-- The fields of a declaration, one record after the other.
use Prim.Native.Nat.{ℕ, ◌+◌, ◌*◌, ◌-◌, ◌/◌, ◌≤◌, ◌<◌}
use mathlib.Core.Path.{◌≡◌, refl, sym, ap, ◌∙◌}
use mathlib.Core.Bool.{Bool, true, false, not, ◌&&◌, ◌||◌}
use mathlib.Core.List.{[], ◌∷◌}
use native.Mathlib.Omega.{arith}
use borrow.Author.Tests.{eq-eqb, ne_eqb, eqb-true, eqb-false, ltb-true, ltb-false, lt-ltb, le-ltb}
use lib.Dec.{ltb, eqb}
use lib.ListN.{length, drop, length-drop}
use Rattle.wire.specs.Bytes.{Bytes}
use Rattle.wire.specs.Puts.{Puts}
use Rattle.wire.specs.declared.Writer.{Writer}
use Rattle.wire.proofs.Puts.{then, Rest, rest_all, rest_step, rest_none}
use Rattle.token.specs.Token.{Token}
use Rattle.token.specs.Payload.{paragraphs_of}
use Rattle.schema.specs.Ast.{TypeVariant}
use Rattle.schema.specs.Kind.{s_field, s_deleted}
use Rattle.schema.specs.Payload.{is_field, after_name}
use Rattle.schema.specs.Table.{is_type, is_inside}
use Rattle.schema.specs.Decode.{field_of, fields_of, deleted_of, declarations_of}
use Rattle.schema.specs.Walk.{records_from, kind_at, next_at, payload_at, token_at, WholeAt, Stands}
use Rattle.schema.proofs.Steps.{either, at_field, at_deleted, at_declaration}
use Rattle.schema.proofs.Walk.{record_at, records_end, type_nested}
use Rattle.text.specs.Text.{is_empty, blank, has_comment, field_text, fields_text}
use Rattle.writer.specs.Parts.{type_at, depth_at, field_from, is_commented}
use Rattle.writer.specs.Steps.{Nested, Fields}
use Rattle.writer.proofs.Types.{typed}

-- a field has a comment where there are bytes after the count of its paragraphs
paragraphs_some : (bs : Bytes) → not (is_empty (paragraphs_of bs)) ≡ ltb 0 (length bs)
unfolding paragraphs_of
paragraphs_some [] = refl
paragraphs_some (b ∷ bs) = sym (lt-ltb 0 (length (b ∷ bs)) (omega arith))

after_two : (bs : Bytes) → ltb 2 (length bs) ≡ ltb 0 (length (drop 2 bs))
after_two bs = go (ltb 2 (length bs)) refl
  where
    go : (b : Bool) → ltb 2 (length bs) ≡ b → ltb 2 (length bs) ≡ ltb 0 (length (drop 2 bs))
    go true e = e ∙ sym (lt-ltb 0 (length (drop 2 bs)) (omega (arith, length-drop 2 bs, ltb-true 2 (length bs) e)))
    go false e = e ∙ sym (le-ltb 0 (length (drop 2 bs)) (omega (arith, length-drop 2 bs, ltb-false 2 (length bs) e)))

pub commented_is : (p : Bytes) → ltb 2 (length (after_name (drop 9 p))) ≡ is_commented p
unfolding is_commented
commented_is p = after_two (after_name (drop 9 p)) ∙ sym (paragraphs_some (drop 2 (after_name (drop 9 p))))

field_text_lem : (r : Token) (type : TypeVariant) → field_text (field_of r type) ≡ field_from r.payload type
unfolding field_text field_from
field_text_lem r type = refl

field_has : (r : Token) (type : TypeVariant) → has_comment (field_of r type) ≡ is_commented r.payload
unfolding is_commented
field_has r type = refl

-- a field's record, and its type after it
pub record FieldAt (t : Bytes) (at : ℕ) : Type 0 where
  pub whole : WholeAt t at
  pub right : is_field (payload_at t at) ≡ true
  pub type : Stands t (next_at t at) is_type
  pub few : depth_at t (next_at t at) ≤ 64
  pub fields : fields_of (records_from t at) ≡ field_of (token_at t at) (type_at t (next_at t at)) ∷ fields_of (records_from t (next_at t at))
  pub deleted : deleted_of (records_from t at) ≡ deleted_of (records_from t (next_at t at))
  pub later : declarations_of (records_from t at) ≡ declarations_of (records_from t (next_at t at))

pub field_at : {t : Bytes} {at : ℕ} → Stands t at is_inside → at < length t → kind_at t at ≡ s_field → FieldAt t at
field_at {t} {at} s h e =
    let r = record_at s h in
    let q = at_field (records_from t (next_at t at)) (token_at t at) e r.right in
    record {
      whole = r.whole;
      right = q.rule;
      type = r.next is_type q.after;
      few = type_nested s h e;
      fields = ap fields_of r.records ∙ q.fields;
      deleted = ap deleted_of r.records ∙ q.deleted;
      later = ap declarations_of r.records ∙ q.declarations;
    }

pub nested_at : {t : Bytes} {at next inner : ℕ} → FieldAt t at → next ≡ next_at t at → inner ≡ next + 12 * depth_at t next → Nested t next ((inner - next) / 12)
nested_at {t} {next = next} f n i =
    let few : depth_at t next ≤ 64 = rw n f.few in
    record { stands = rw n f.type; depth = omega arith; few = omega arith }

-- after the last field
no_field : {t : Bytes} {at : ℕ} → Stands t at is_inside → at < length t → eqb (kind_at t at) s_field ≡ false → fields_of (records_from t at) ≡ []
no_field {t} {at} s h e =
    let r = record_at s h in
    let rest = records_from t (next_at t at) in
    ap fields_of r.records
    ∙ either (eqb (kind_at t at) s_deleted) _ (rw e at r.allowed) (λ q. (at_deleted rest (token_at t at) (eqb-true _ _ q) r.right).fields)
    (λ q. (at_declaration rest (token_at t at) q r.right).fields)

-- what is left of a declaration's fields at a place
pub record Fielding (t : Bytes) (from : ℕ) (w₀ w : Writer) (at : ℕ) (commented : Bool) : Type 0 where
  pub stands : Stands t at is_inside
  pub onward : from ≤ at
  pub left : Rest w (fields_text (not (eqb at from)) commented (fields_of (records_from t at))) w₀ (fields_text false false (fields_of (records_from t from)))
  pub some : (at ≡ from → ⊥) → is_empty (fields_of (records_from t from)) ≡ false
  pub deleted : deleted_of (records_from t from) ≡ deleted_of (records_from t at)
  pub later : declarations_of (records_from t from) ≡ declarations_of (records_from t at)

pub fielding_begin : {t : Bytes} {from : ℕ} {w : Writer} → Stands t from is_inside → Fielding t from w w from false
fielding_begin {from = from} s =
    record {
      stands = s;
      onward = omega arith;
      left = rw (eq-eqb from from refl) rest_all;
      some = λ z. absurd (z refl);
      deleted = refl;
      later = refl;
    }

module _ {t : Bytes} {from : ℕ} {w₀ w : Writer} {at : ℕ} {commented : Bool} (g : Fielding t from w₀ w at commented) where
  some_field : at < length t → kind_at t at ≡ s_field → (b : Bool) → eqb at from ≡ b → is_empty (fields_of (records_from t from)) ≡ false
  some_field h e true q = rw (← eqb-true at from q) (ap is_empty (field_at g.stands h e).fields)
  some_field h e false q = g.some (eqb-false at from q)

  pub fielding_more : {m w' : Writer} {inner after : ℕ} {has : Bool} → at < length t → kind_at t at ≡ s_field
      → inner ≡ next_at t at + 12 * depth_at t (next_at t at) → after ≡ next_at t inner → has ≡ is_commented (payload_at t at)
      → Puts w (blank (not (eqb at from) && (commented || has))) m → Puts m (field_from (payload_at t at) (type_at t (next_at t at))) w'
      → Fielding t from w₀ w' after has
  fielding_more {inner = inner} h e i n c v q =
      let f = field_at g.stands h e in
      let y = typed (depth_at t (next_at t at)) f.type refl i in
      let p = y.past in
      let low = f.whole in
      let high = y.whole in
      let on = g.onward in
      let z : eqb (next_at t inner) from ≡ false = ne_eqb (next_at t inner) from (λ q. omega arith) in
      rw n
      (record {
        stands = y.next;
        onward = omega arith;
        left = rest_step (then v q) g.left (ap (fields_text (not (eqb at from)) commented) f.fields
            ∙ rw (field_has (token_at t at) (type_at t (next_at t at)), ← c, field_text_lem (token_at t at) (type_at t (next_at t at)), p.fields, z));
        some = λ z. some_field h e (eqb at from) refl;
        deleted = g.deleted ∙ f.deleted ∙ p.deleted;
        later = g.later ∙ f.later ∙ p.later;
      })

  -- no field is left
  done : fields_of (records_from t at) ≡ [] → (at < length t → eqb (kind_at t at) s_field ≡ false) → Fields t from w₀ at w
  done e k =
      record {
        put = rest_none g.left (rw e);
        fielded = record { stands = g.stands; stopped = k };
        some = empty (eqb at from) refl;
        deleted = g.deleted;
        later = g.later;
        onward = g.onward;
      }
    where
      empty : (b : Bool) → eqb at from ≡ b → is_empty (fields_of (records_from t from)) ≡ eqb at from
      empty true q = rw (q, ← eqb-true at from q, e)
      empty false q = g.some (eqb-false at from q) ∙ sym q

  pub fielding_end : length t ≤ at → Fields t from w₀ at w
  fielding_end h = done (ap fields_of (records_end t at h)) (λ k. absurd (omega arith))

  pub fielding_other : at < length t → eqb (kind_at t at) s_field ≡ false → Fields t from w₀ at w
  fielding_other h e = done (no_field g.stands h e) (λ k. e)
