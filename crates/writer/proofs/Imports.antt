-- The schema comment, and imports one after the other.
use Prim.Native.Nat.{ℕ, ◌≤◌, ◌<◌}
use mathlib.Core.Path.{◌≡◌, refl, sym, ap, ◌∙◌}
use mathlib.Core.Bool.{Bool, true, false, not, ◌||◌}
use mathlib.Core.List.{[], ◌∷◌}
use native.Mathlib.Omega.{arith}
use borrow.Author.Tests.{eqb-true, eqb-false, ltb-true, ltb-false}
use lib.Dec.{ltb, eqb}
use lib.ListN.{length}
use Rattle.wire.specs.Bytes.{Bytes}
use Rattle.wire.specs.Pick.{pick}
use Rattle.wire.specs.Puts.{Puts}
use Rattle.wire.specs.declared.Writer.{Writer}
use Rattle.wire.proofs.Puts.{puts_none, then, Rest, rest_all, rest_step, rest_none}
use Rattle.token.specs.Payload.{is_comment, paragraphs_of}
use Rattle.schema.specs.Kind.{s_comment, s_import}
use Rattle.schema.specs.Payload.{is_import, name_of, after_name}
use Rattle.schema.specs.Table.{records_of, is_importing, is_outside, may_follow, is_schema_table}
use Rattle.schema.specs.Decode.{opening_of, import_of, imports_of, declarations_of}
use Rattle.schema.specs.Walk.{records_from, kind_at, next_at, payload_at, token_at, WholeAt, Stands}
use Rattle.schema.proofs.Steps.{either, at_comment, at_import, at_declaration}
use Rattle.schema.proofs.Walk.{stands_start, record_at, records_end}
use Rattle.text.specs.Text.{is_empty, blank, comment_text, opening_text, import_text, imports_text}
use Rattle.text.proofs.Parts.{comment_parts}
use Rattle.writer.specs.Steps.{Opened, Imported, Commented}

pub record ImportAt (t : Bytes) (at : ℕ) : Type 0 where
  pub whole : WholeAt t at
  pub right : is_import (payload_at t at) ≡ true
  pub next : Opened t (next_at t at)
  pub imports : imports_of (records_from t at) ≡ import_of (token_at t at) ∷ imports_of (records_from t (next_at t at))
  pub later : declarations_of (records_from t at) ≡ declarations_of (records_from t (next_at t at))

opened : {t : Bytes} {at : ℕ} → Stands t at is_importing → Opened t at
opened s = record { may = is_importing; stands = s; begins = λ h. (record_at s h).allowed }

pub import_at_lem : {t : Bytes} {at : ℕ} → Opened t at → at < length t → kind_at t at ≡ s_import → ImportAt t at
import_at_lem {t} {at} o h e =
    let r = record_at o.stands h in
    let q = at_import (records_from t (next_at t at)) (token_at t at) e r.right in
    record {
      whole = r.whole;
      right = q.rule;
      next = opened (r.next is_importing q.after);
      imports = ap imports_of r.records ∙ q.imports;
      later = ap declarations_of r.records ∙ q.declarations;
    }

-- what is left of the imports at a place
pub record Importing (t : Bytes) (from : ℕ) (w₀ w : Writer) (at : ℕ) : Type 0 where
  pub opened : Opened t at
  pub onward : from ≤ at
  pub left : Rest w (imports_text (imports_of (records_from t at))) w₀ (imports_text (imports_of (records_from t from)))
  pub some : (at ≡ from → ⊥) → is_empty (imports_of (records_from t from)) ≡ false
  pub later : declarations_of (records_from t from) ≡ declarations_of (records_from t at)

pub importing_begin : {t : Bytes} {from : ℕ} {w : Writer} → Opened t from → Importing t from w w from
importing_begin s = record { opened = s; onward = omega arith; left = rest_all; some = λ z. absurd (z refl); later = refl }

module _ {t : Bytes} {from : ℕ} {w₀ w : Writer} {at : ℕ} (g : Importing t from w₀ w at) where
  some_import : at < length t → kind_at t at ≡ s_import → (b : Bool) → eqb at from ≡ b → is_empty (imports_of (records_from t from)) ≡ false
  some_import h e true q = rw (← eqb-true at from q) (ap is_empty (import_at_lem g.opened h e).imports)
  some_import h e false q = g.some (eqb-false at from q)

  pub importing_more : {w' : Writer} {next : ℕ} → at < length t → kind_at t at ≡ s_import → next ≡ next_at t at
      → Puts w (import_text (name_of (payload_at t at)) (after_name (payload_at t at))) w' → Importing t from w₀ w' next
  importing_more h e n v =
      let i = import_at_lem g.opened h e in
      let low = i.whole in
      let on = g.onward in
      rw n
      (record {
        opened = i.next;
        onward = omega arith;
        left = rest_step v g.left (ap imports_text i.imports);
        some = λ q. some_import h e (eqb at from) refl;
        later = g.later ∙ i.later;
      })

  done : imports_of (records_from t at) ≡ [] → (at < length t → is_outside (kind_at t at) ≡ true) → Imported t from w₀ at w
  done e k =
      record {
        put = rest_none g.left (rw e);
        outside = record { may = g.opened.may; stands = g.opened.stands; begins = k };
        some = empty (eqb at from) refl;
        later = g.later;
      }
    where
      empty : (b : Bool) → eqb at from ≡ b → is_empty (imports_of (records_from t from)) ≡ eqb at from
      empty true q = rw (q, ← eqb-true at from q, e)
      empty false q = g.some (eqb-false at from q) ∙ sym q

  pub importing_end : length t ≤ at → Imported t from w₀ at w
  importing_end h = done (ap imports_of (records_end t at h)) (λ k. absurd (omega arith))

  pub importing_other : at < length t → eqb (kind_at t at) s_import ≡ false → Imported t from w₀ at w
  importing_other h e =
      let r = record_at g.opened.stands h in
      let k : is_outside (kind_at t at) ≡ true = rw e at (g.opened.begins h) in
      done (ap imports_of r.records ∙ (at_declaration (records_from t (next_at t at)) (token_at t at) k r.right).imports) (λ z. k)

-- where the table goes on, there is an import or a declaration
more_at : {t : Bytes} {at : ℕ} → Opened t at
    → ltb at (length t) ≡ (not (is_empty (imports_of (records_from t at))) || not (is_empty (declarations_of (records_from t at))))
more_at {t} {at} o = go (ltb at (length t)) refl
  where
    go : (b : Bool) → ltb at (length t) ≡ b
        → ltb at (length t) ≡ (not (is_empty (imports_of (records_from t at))) || not (is_empty (declarations_of (records_from t at))))
    go false q = q ∙ rw (records_end t at (ltb-false at (length t) q))
    go true q =
        let h = ltb-true at (length t) q in
        let r = record_at o.stands h in
        either (eqb (kind_at t at) s_import) _ (o.begins h)
        (λ e. q ∙ rw (import_at_lem o h (eqb-true _ _ e)).imports)
        (λ e. let d = at_declaration (records_from t (next_at t at)) (token_at t at) e r.right in q ∙ rw (r.records, d.imports, d.declarations))

-- the schema comment at the table's start
pub record CommentAt (t : Bytes) : Type 0 where
  pub whole : WholeAt t 0
  pub right : is_comment (payload_at t 0) ≡ true
  pub next : Opened t (next_at t 0)
  pub opening : opening_of (records_of t) ≡ paragraphs_of (payload_at t 0)
  pub imports : imports_of (records_of t) ≡ imports_of (records_from t (next_at t 0))
  pub later : declarations_of (records_of t) ≡ declarations_of (records_from t (next_at t 0))

pub comment_at : (t : Bytes) → is_schema_table t ≡ true → 0 < length t → kind_at t 0 ≡ s_comment → CommentAt t
comment_at t s h e =
    let r = record_at (stands_start t s) h in
    let q = at_comment (records_from t (next_at t 0)) (token_at t 0) e r.right in
    record {
      whole = r.whole;
      right = q.rule;
      next = opened (r.next is_importing q.after);
      opening = ap opening_of r.records ∙ q.opening;
      imports = ap imports_of r.records ∙ q.imports;
      later = ap declarations_of r.records ∙ q.declarations;
    }

pub commented : {t : Bytes} {w m w' : Writer} {next : ℕ} → CommentAt t → next ≡ next_at t 0 → Puts w (comment_text [] (paragraphs_of (payload_at t 0))) m
    → Puts m (blank (ltb next (length t))) w' → Commented t w next w'
unfolding opening_text
commented {t} c n v q =
    rw n
    (record {
      put = rw (c.opening, (comment_parts (payload_at t 0) c.right).some, c.imports, c.later, ← more_at c.next) (then v (rw n at q));
      opened = c.next;
      imports = c.imports;
      later = c.later;
    })

-- no comment
importing : (t : Bytes) → is_schema_table t ≡ true → 0 < length t → eqb (kind_at t 0) s_comment ≡ false → is_importing (kind_at t 0) ≡ true
unfolding may_follow pick
importing t s h e = rw e at (record_at (stands_start t s) h).allowed

module _ (t : Bytes) (s : is_schema_table t ≡ true) {w : Writer} where
  plain : opening_of (records_of t) ≡ [] → (0 < length t → is_importing (kind_at t 0) ≡ true) → Commented t w 0 w
  unfolding opening_text blank pick
  plain e k =
      record {
        put = rw e puts_none;
        opened = record { may = may_follow 0; stands = stands_start t s; begins = k };
        imports = refl;
        later = refl;
      }

  pub uncommented_end : length t ≤ 0 → Commented t w 0 w
  uncommented_end h = plain (ap opening_of (records_end t 0 h)) (λ k. absurd (omega arith))

  pub uncommented_other : 0 < length t → eqb (kind_at t 0) s_comment ≡ false → Commented t w 0 w
  uncommented_other h e =
      let r = record_at (stands_start t s) h in
      let rest = records_from t (next_at t 0) in
      plain
      (ap opening_of r.records
      ∙ either (eqb (kind_at t 0) s_import) _ (importing t s h e) (λ q. (at_import rest (token_at t 0) (eqb-true _ _ q) r.right).opening)
      (λ q. (at_declaration rest (token_at t 0) q r.right).opening))
      (λ k. importing t s h e)
