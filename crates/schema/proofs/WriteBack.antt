-- The records that the schema of a schema table is written as: those of the table. And that schema is within the limits.
use mathlib.Core.Path.{◌≡◌, refl, sym, ◌∙◌}
use mathlib.Core.Bool.{Bool, true, false}
use mathlib.Core.List.{List, [], ◌∷◌, map}
use Prim.Native.Nat.{ℕ, ◌+◌, ◌≤◌}
use native.Mathlib.Nat.{zero-add}
use native.Mathlib.Omega.{arith}
use borrow.Author.Tests.{eqb-true, eq-eqb}
use lib.Dec.{eqb}
use lib.ListN.{length}
use Rattle.wire.specs.Bytes.{Bytes}
use Rattle.wire.specs.Pick.{pick}
use Rattle.wire.proofs.Numbers.{AllBytes}
use Rattle.identifier.specs.Order.{is_before}
use Rattle.token.specs.Token.{Token}
use Rattle.token.specs.Payload.{paragraphs_of, paragraph_bytes}
use Rattle.schema.specs.Ast.{Range}
use Rattle.schema.specs.Kind.{s_comment, s_import, s_field, s_deleted, s_array, s_plain, s_custom}
use Rattle.schema.specs.Order.{is_chain_after, is_chain}
use Rattle.schema.specs.Limits.{Each, RangeWithin, CommentWithin, ImportWithin, TypeWithin, nesting}
use Rattle.schema.specs.Limits.{FieldWithin, DeletedWithin, DeclarationWithin, is_earlier, Within}
use Rattle.schema.specs.Encode.{nowhere, indices}
use Rattle.schema.specs.Payload.{name_of, indices_of, is_type_payload, is_payload}
use Rattle.schema.specs.Table.{may_follow, is_outside, is_importing, is_inside, is_type, is_later, row_after, are_next, outset}
use Rattle.schema.specs.Decode.{range_of, opening_of, import_of, imports_of, type_of, fields_of, deleted_of, declarations_of, schema_of, settled}
use Rattle.token.proofs.Encode.{Narrow}
use Rattle.schema.proofs.Steps.{After, at_declaration, at_kind, never, either, NextIs, next_is}
use Rattle.schema.proofs.PayloadsRead.{Some, import_read, declaration_read, field_read, deleted_read, comment_read, plain_read, custom_read}
use Rattle.schema.proofs.Written.{made, comment_records, import_records, type_records, field_records, deleted_records, declaration_records, schema_records}

-- what a table's bytes show of each record
pub record Read (r : Token) : Type 0 where
  pub fits : Narrow r
  pub bytes : AllBytes r.payload

range_within : {r : Token} → Read r → RangeWithin (range_of r)
range_within r = record { start = r.fits.start; end = r.fits.end }

-- what is shown of the records after one of a kind
record OutsideParts (rs : List Token) : Type 0 where
  back : declaration_records (declarations_of rs) ≡ map settled rs
  declarations : Each DeclarationWithin (declarations_of rs)

record InsideParts (rs : List Token) : Type 0 where
  back : field_records (fields_of rs) (deleted_records (deleted_of rs) (declaration_records (declarations_of rs))) ≡ map settled rs
  fields : Each FieldWithin (fields_of rs)
  deleted : DeletedWithin (deleted_of rs)
  declarations : Each DeclarationWithin (declarations_of rs)

record TypedParts (row : ℕ) (rs : List Token) : Type 0 where
  back : type_records (type_of rs) (field_records (fields_of rs) (deleted_records (deleted_of rs) (declaration_records (declarations_of rs)))) ≡ map settled rs
  type : TypeWithin (type_of rs)
  nested : row + nesting (type_of rs) ≤ 64
  fields : Each FieldWithin (fields_of rs)
  deleted : DeletedWithin (deleted_of rs)
  declarations : Each DeclarationWithin (declarations_of rs)

record ImportParts (last : Token) (rs : List Token) : Type 0 where
  back : import_records (imports_of rs) (declaration_records (declarations_of rs)) ≡ map settled rs
  imports : Each ImportWithin (imports_of rs)
  ascending : is_chain is_earlier (imports_of rs) ≡ true
  later : last.kind ≡ s_import → is_chain_after is_earlier (import_of last) (imports_of rs) ≡ true
  declarations : Each DeclarationWithin (declarations_of rs)

record Parts (rs : List Token) : Type 0 where
  outside : (last : Token) (row : ℕ) → After last is_outside → are_next last row rs ≡ true → OutsideParts rs
  inside : (last : Token) (row : ℕ) → After last is_inside → are_next last row rs ≡ true → InsideParts rs
  typed : (last : Token) (row : ℕ) → After last is_type → row ≤ 64 → are_next last row rs ≡ true → TypedParts row rs
  imports : (last : Token) (row : ℕ) → After last is_importing → are_next last row rs ≡ true → ImportParts last rs

none : DeletedWithin []
none = record { each = tt; ascending = refl; few = omega arith }

parts_end : Parts []
parts_end = record {
  outside = λ last row f e. record { back = refl; declarations = tt };
  inside = λ last row f e. record { back = refl; fields = tt; deleted = none; declarations = tt };
  typed = λ last row f l e. never (sym (f 0) ∙ e);
  imports = λ last row f e. record { back = refl; imports = tt; ascending = refl; later = λ _. refl; declarations = tt };
}

-- one more record in front
module _ (rs : List Token) (h : Parts rs) (last : Token) (row : ℕ) where
  -- a record of this kind leaves these parts
  abbrev Gives : (List Token → Type 0) → Token → Type 0
  Gives Q r = Read r → NextIs last row r rs → Q (r ∷ rs)

  outside_gives : (r : Token) → is_outside r.kind ≡ true → Gives OutsideParts r
  outside_gives r e read n =
      let a = at_declaration rs r e n.payload in
      let i = h.inside r _ a.after n.rest in
      let d = declaration_read r.payload read.bytes a.rule in
      record {
        back = rw (a.declarations, a.kind, d.back, i.back, a.settles);
        declarations = rw a.declarations (
          record {
            range = range_within read;
            comment = d.comment;
            name = d.name;
            fields = i.fields;
            deleted = i.deleted;
          },
          i.declarations,
        );
      }

  field_gives : (range : Range) (p : Bytes) → Gives InsideParts (made s_field range p)
  unfolding is_payload is_type_payload may_follow pick row_after
  field_gives range p read n =
      let t = h.typed _ _ (λ k. refl) (omega arith) n.rest in
      let f = field_read p read.bytes n.payload in
      record {
        back = rw (f.back, t.back);
        fields = (
          record {
            range = range_within read;
            comment = f.comment;
            name = f.name;
            type = t.type;
            nested = rw zero-add at t.nested;
            index = f.index;
          },
          t.fields,
        );
        deleted = t.deleted;
        declarations = t.declarations;
      }

  deleted_gives : (range : Range) (p : Bytes) → Gives InsideParts (made s_deleted range p)
  unfolding is_payload is_type_payload may_follow pick
  deleted_gives range p read n =
      let o = h.outside _ _ (λ k. refl) n.rest in
      let d = deleted_read p read.bytes read.fits.size n.payload in
      record { back = written (indices_of p) d.some ∙ rw (d.back, o.back); fields = tt; deleted = d.within; declarations = o.declarations }
    where
      written : (ns : List ℕ) → Some ℕ ns → {rs : List Token} → deleted_records ns rs ≡ made s_deleted nowhere (indices ns) ∷ rs
      written ns s = rw s.are

  inside_gives : (r : Token) → is_inside r.kind ≡ true → Gives InsideParts r
  inside_gives r e =
      either (eqb r.kind s_field) _ e (λ q. at_kind (Gives InsideParts) r (eqb-true _ _ q) (field_gives (range_of r) r.payload))
      (λ e. either (eqb r.kind s_deleted) _ e (λ q. at_kind (Gives InsideParts) r (eqb-true _ _ q) (deleted_gives (range_of r) r.payload))
      (λ e read n.
      let a = at_declaration rs r e n.payload in
      let o = outside_gives r e read n in
      record { back = rw (a.fields, a.deleted) o.back; fields = rw a.fields tt; deleted = rw a.deleted none; declarations = o.declarations }))

  array_gives : (range : Range) (p : Bytes) → Gives (TypedParts row) (made s_array range p)
  unfolding is_payload is_type_payload may_follow pick row_after
  array_gives range p read n =
      let t = h.typed _ _ (λ k. refl) n.nested n.rest in
      let l = t.nested in
      record {
        back = rw (t.back, empty p (eqb-true (length p) 0 n.payload));
        type = (range_within read, t.type);
        nested = omega arith;
        fields = t.fields;
        deleted = t.deleted;
        declarations = t.declarations;
      }
    where
      empty : (p : Bytes) → length p ≡ 0 → p ≡ []
      empty [] e = refl
      empty (b ∷ p) e = absurd (omega arith)

  module _ (l : row ≤ 64) where
    plain_gives : (range : Range) (p : Bytes) → Gives (TypedParts row) (made s_plain range p)
    unfolding is_payload is_type_payload may_follow pick
    plain_gives range p read n =
        let i = h.inside _ _ (λ k. refl) n.rest in
        let d = plain_read p read.bytes n.payload in
        record {
          back = rw (d.back, i.back);
          type = (range_within read, d.kind);
          nested = omega arith;
          fields = i.fields;
          deleted = i.deleted;
          declarations = i.declarations;
        }

    custom_gives : (range : Range) (p : Bytes) → Gives (TypedParts row) (made s_custom range p)
    unfolding is_payload is_type_payload may_follow pick
    custom_gives range p read n =
        let i = h.inside _ _ (λ k. refl) n.rest in
        let d = custom_read p read.bytes n.payload in
        record {
          back = rw (d.back, i.back);
          type = (range_within read, d.import, d.name);
          nested = omega arith;
          fields = i.fields;
          deleted = i.deleted;
          declarations = i.declarations;
        }

    typed_gives : (r : Token) → is_type r.kind ≡ true → Gives (TypedParts row) r
    typed_gives r e =
        either (eqb r.kind s_array) _ e (λ q. at_kind (Gives (TypedParts row)) r (eqb-true _ _ q) (array_gives (range_of r) r.payload))
        (λ e. either (eqb r.kind s_plain) _ e (λ q. at_kind (Gives (TypedParts row)) r (eqb-true _ _ q) (plain_gives (range_of r) r.payload))
        (λ q. at_kind (Gives (TypedParts row)) r (eqb-true _ _ q) (custom_gives (range_of r) r.payload)))

  earlier : (range : Range) (p : Bytes) → last.kind ≡ s_import → is_later last.kind last.payload s_import p ≡ true
      → is_before (name_of last.payload) (name_of p) ≡ true
  unfolding is_later pick
  earlier range p e l = rw (eq-eqb last.kind s_import e) at l

  import_gives : (range : Range) (p : Bytes) → Gives (ImportParts last) (made s_import range p)
  unfolding is_payload is_type_payload may_follow pick
  import_gives range p read n =
      let m = h.imports _ _ (λ k. refl) n.rest in
      let i = import_read p read.bytes n.payload in
      record {
        back = rw (i.back, m.back);
        imports = (record { range = range_within read; name = i.name; path = i.path }, m.imports);
        ascending = m.later refl;
        later = λ e. rw (earlier range p e n.later, m.later refl);
        declarations = m.declarations;
      }

  imports_gives : (r : Token) → is_importing r.kind ≡ true → Gives (ImportParts last) r
  imports_gives r e =
      either (eqb r.kind s_import) _ e (λ q. at_kind (Gives (ImportParts last)) r (eqb-true _ _ q) (import_gives (range_of r) r.payload))
      (λ e read n.
      let a = at_declaration rs r e n.payload in
      let o = outside_gives r e read n in
      record {
        back = rw a.imports o.back;
        imports = rw a.imports tt;
        ascending = rw a.imports;
        later = λ _. rw a.imports;
        declarations = o.declarations;
      })

parts_step : (r : Token) (rs : List Token) → Read r → Parts rs → Parts (r ∷ rs)
parts_step r rs read h = record {
  outside = λ last row f e. let n = next_is e in outside_gives rs h last row r (sym (f r.kind) ∙ n.follow) read n;
  inside = λ last row f e. let n = next_is e in inside_gives rs h last row r (sym (f r.kind) ∙ n.follow) read n;
  typed = λ last row f l e. let n = next_is e in typed_gives rs h last row l r (sym (f r.kind) ∙ n.follow) read n;
  imports = λ last row f e. let n = next_is e in imports_gives rs h last row r (sym (f r.kind) ∙ n.follow) read n;
}

parts : (rs : List Token) → Each Read rs → Parts rs
parts [] reads = parts_end
parts (r ∷ rs) reads = parts_step r rs reads.0 (parts rs reads.1)

-- a schema table's schema
pub record SchemaParts (rs : List Token) : Type 0 where
  pub back : schema_records (schema_of rs) ≡ map settled rs
  pub within : Within (schema_of rs)

no_comment : CommentWithin []
no_comment = record { few = omega arith; each = refl }

schema_step : (r : Token) (rs : List Token) → Parts rs → Read r → NextIs outset 0 r rs → SchemaParts (r ∷ rs)
unfolding is_payload is_type_payload may_follow pick
schema_step r rs h read n = go (eqb r.kind s_comment) refl
  where
    written : (ps : List Bytes) → Some Bytes ps → {rs : List Token} → comment_records ps rs ≡ made s_comment nowhere (paragraph_bytes ps) ∷ rs
    written ps s = rw s.are

    opens : (range : Range) (p : Bytes) → Gives rs h outset 0 SchemaParts (made s_comment range p)
    opens range p read n =
        let m = h.imports _ _ (λ k. refl) n.rest in
        let c = comment_read p read.bytes n.payload in
        record {
          back = written (paragraphs_of p) c.some ∙ rw (c.back, m.back);
          within = record { comment = c.within; imports = m.imports; ascending = m.ascending; declarations = m.declarations };
        }

    go : (b : Bool) → eqb r.kind s_comment ≡ b → SchemaParts (r ∷ rs)
    go true e = at_kind (Gives rs h outset 0 SchemaParts) r (eqb-true _ _ e) (opens (range_of r) r.payload) read n
    go false e =
        let m = imports_gives rs h outset 0 r (rw e at n.follow) read n in
        let o : opening_of (r ∷ rs) ≡ [] = rw (e, opening_of) in
        record {
          back = rw o m.back;
          within = record { comment = rw o no_comment; imports = m.imports; ascending = m.ascending; declarations = m.declarations };
        }

pub schema_parts : (rs : List Token) → Each Read rs → are_next outset 0 rs ≡ true → SchemaParts rs
schema_parts [] reads e =
    record { back = refl; within = record { comment = no_comment; imports = tt; ascending = refl; declarations = tt } }
schema_parts (r ∷ rs) reads e = schema_step r rs (parts rs reads.1) reads.0 (next_is e)
