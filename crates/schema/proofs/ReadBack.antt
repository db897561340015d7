-- The schema of the records that a schema was written as, within the limits: the same.
use mathlib.Core.Path.{◌≡◌, refl, ap, ◌∙◌}
use mathlib.Core.Bool.{true, ◌||◌}
use mathlib.Core.List.{List, [], ◌∷◌}
use Prim.Native.Nat.{ℕ}
use lib.Dec.{eqb}
use lib.ListN.{drop}
use Rattle.wire.specs.Bytes.{Bytes}
use Rattle.wire.specs.Pick.{pick}
use Rattle.token.specs.Token.{Token}
use Rattle.token.specs.Payload.{paragraphs_of}
use Rattle.schema.specs.Ast.{Range, TypeVariant, Field, Import, DeclarationVariant, Declaration, Schema}
use Rattle.schema.specs.Kind.{s_import, s_struct, s_choice, s_field, s_array, s_plain, s_custom}
use Rattle.schema.specs.Limits.{Each, CommentWithin, ImportWithin, TypeWithin, FieldWithin, DeclarationWithin, Within}
use Rattle.schema.specs.Encode.{nowhere, counted, declaration_kind, declaration_payload, field_payload, import_payload}
use Rattle.schema.specs.Payload.{name_of, after_name}
use Rattle.schema.specs.Decode.{opening_of, comment_of, import_of, imports_of, type_of, field_of, fields_of}
use Rattle.schema.specs.Decode.{deleted_of, variant_of, declaration_of, declarations_of, schema_of}
use Rattle.schema.proofs.Parts.{IsIndex, indices_written}
use Rattle.token.proofs.Paragraphs.{paragraphs_found}
use Rattle.schema.proofs.Payloads.{name_is, after_is, comment_is, body_is, index_is, rule_is, plain_is, import_part_lem, custom_name}
use Rattle.schema.proofs.Written.{made, comment_records, import_records, type_records, field_records, deleted_records, declaration_records, schema_records}

type_is : (y : TypeVariant) (rs : List Token) → TypeWithin y → type_of (type_records y rs) ≡ y
type_is (TypeVariant.array r inner) rs w = ap (TypeVariant.array r) (type_is inner rs w.1)
type_is (TypeVariant.plain r kind) rs w = ap (TypeVariant.plain r) (plain_is kind w.1)
type_is (TypeVariant.custom r import name) rs w = rw (import_part_lem import name w.1 w.2, custom_name import name w.1 w.2)

-- what passes over the records of a type passes over the type
abbrev Passes : {A : Type 0} → (List Token → A) → Type 0
Passes g = (r : Range) (p : Bytes) (rs : List Token)
    → (g (made s_array r p ∷ rs) ≡ g rs) × (g (made s_plain r p ∷ rs) ≡ g rs) × (g (made s_custom r p ∷ rs) ≡ g rs)

past : {A : Type 0} (g : List Token → A) → Passes g → (y : TypeVariant) (rs : List Token) → g (type_records y rs) ≡ g rs
past g h (TypeVariant.array r inner) rs = (h r _ _).0 ∙ past g h inner rs
past g h (TypeVariant.plain r kind) rs = (h r _ rs).1
past g h (TypeVariant.custom r import name) rs = (h r _ rs).2

fields_past : (y : TypeVariant) (rs : List Token) → fields_of (type_records y rs) ≡ fields_of rs
fields_past = past fields_of (λ r p rs. (refl, refl, refl))

deleted_past : (y : TypeVariant) (rs : List Token) → deleted_of (type_records y rs) ≡ deleted_of rs
deleted_past = past deleted_of (λ r p rs. (refl, refl, refl))

declarations_past : (y : TypeVariant) (rs : List Token) → declarations_of (type_records y rs) ≡ declarations_of rs
declarations_past = past declarations_of (λ r p rs. (refl, refl, refl))

field_is : (f : Field) → FieldWithin f → field_of (made s_field f.range (field_payload f)) f.type ≡ f
field_is f w = λ i. record {
  range = f.range;
  comment = comment i;
  rule = rule_is f w i;
  name = name i;
  type = f.type;
  index = index_is f w i;
}
  where
    comment : comment_of (after_name (drop 9 (field_payload f))) ≡ f.comment
    comment = rw (body_is f w, after_is f.name _ w.name) (comment_is f.comment w.comment)

    name : name_of (drop 9 (field_payload f)) ≡ f.name
    name = rw (body_is f w) (name_is f.name _ w.name)

fields_are : (fs : List Field) (rs : List Token) → Each FieldWithin fs → fields_of rs ≡ [] → fields_of (field_records fs rs) ≡ fs
fields_are [] rs w e = e
fields_are (f ∷ fs) rs w e =
    let more = field_records fs rs in
    rw (type_is f.type more w.0.type, fields_past f.type more, fields_are fs rs w.1 e) (ap (λ (g : Field). g ∷ fs) (field_is f w.0))

-- fields are passed over
deleted_after : (fs : List Field) (rs : List Token) → deleted_of (field_records fs rs) ≡ deleted_of rs
deleted_after [] rs = refl
deleted_after (f ∷ fs) rs = deleted_past f.type (field_records fs rs) ∙ deleted_after fs rs

declarations_after : (fs : List Field) (rs : List Token) → declarations_of (field_records fs rs) ≡ declarations_of rs
declarations_after [] rs = refl
declarations_after (f ∷ fs) rs = declarations_past f.type (field_records fs rs) ∙ declarations_after fs rs

-- what stops at a declaration's record stops at declarations, and at their end
abbrev Stops : {A : Type 0} → (List Token → List A) → Type 0
Stops g = (r : Range) (p : Bytes) (rs : List Token) → (g [] ≡ []) × (g (made s_struct r p ∷ rs) ≡ []) × (g (made s_choice r p ∷ rs) ≡ [])

stop : {A : Type 0} (g : List Token → List A) → Stops g → (ds : List Declaration) → g (declaration_records ds) ≡ []
stop g h [] = (h nowhere [] []).0
stop g h (d ∷ ds) = go d.variant
  where
    go : (v : DeclarationVariant)
        → g (made (declaration_kind v) d.range (declaration_payload d) ∷ field_records d.fields (deleted_records d.deleted (declaration_records ds))) ≡ []
    go DeclarationVariant.struct = (h _ _ _).1
    go DeclarationVariant.choice = (h _ _ _).2

fields_end : (ns : List ℕ) (ds : List Declaration) → fields_of (deleted_records ns (declaration_records ds)) ≡ []
fields_end [] ds = stop fields_of (λ r p rs. (refl, refl, refl)) ds
fields_end (n ∷ ns) ds = refl

deleted_are : (ns : List ℕ) (ds : List Declaration) → Each IsIndex ns → deleted_of (deleted_records ns (declaration_records ds)) ≡ ns
deleted_are [] ds w = stop deleted_of (λ r p rs. (refl, refl, refl)) ds
deleted_are (n ∷ ns) ds w = indices_written (n ∷ ns) w

declarations_past_deleted : (ns : List ℕ) (rs : List Token) → declarations_of (deleted_records ns rs) ≡ declarations_of rs
declarations_past_deleted [] rs = refl
declarations_past_deleted (n ∷ ns) rs = refl

declaration_is : (d : Declaration) → DeclarationWithin d
    → declaration_of (made (declaration_kind d.variant) d.range (declaration_payload d)) d.fields d.deleted ≡ d
declaration_is d w = λ i. record {
  range = d.range;
  comment = comment i;
  variant = variant d.variant i;
  name = name_is d.name (counted d.comment) w.name i;
  fields = d.fields;
  deleted = d.deleted;
}
  where
    comment : comment_of (after_name (declaration_payload d)) ≡ d.comment
    comment = rw (after_is d.name (counted d.comment) w.name) (comment_is d.comment w.comment)

    variant : (v : DeclarationVariant) → variant_of (declaration_kind v) ≡ v
    variant DeclarationVariant.struct = unfold pick in refl
    variant DeclarationVariant.choice = unfold pick in refl

keyword : (v : DeclarationVariant) → (eqb (declaration_kind v) s_struct || eqb (declaration_kind v) s_choice) ≡ true
keyword DeclarationVariant.struct = refl
keyword DeclarationVariant.choice = refl

declarations_step : (r : Token) (rs : List Token) → (eqb r.kind s_struct || eqb r.kind s_choice) ≡ true
    → declarations_of (r ∷ rs) ≡ declaration_of r (fields_of rs) (deleted_of rs) ∷ declarations_of rs
declarations_step r rs e = rw (e, declarations_of)

declarations_are : (ds : List Declaration) → Each DeclarationWithin ds → declarations_of (declaration_records ds) ≡ ds
declarations_are [] w = refl
declarations_are (d ∷ ds) w =
    let later = declaration_records ds in
    let more = deleted_records d.deleted later in
    declarations_step (made (declaration_kind d.variant) d.range (declaration_payload d)) (field_records d.fields more) (keyword d.variant)
    ∙ rw (
      fields_are d.fields more w.0.fields (fields_end d.deleted ds),
      deleted_after d.fields more,
      deleted_are d.deleted ds w.0.deleted.each,
      declarations_after d.fields more,
      declarations_past_deleted d.deleted later,
      declarations_are ds w.1,
    )
    (ap (λ (e : Declaration). e ∷ ds) (declaration_is d w.0))

import_is : (i : Import) → ImportWithin i → import_of (made s_import i.range (import_payload i)) ≡ i
import_is i w = λ j. record {
  range = i.range;
  name = name_is i.name i.path w.name j;
  path = after_is i.name i.path w.name j;
}

imports_are : (is : List Import) (ds : List Declaration) → Each ImportWithin is → imports_of (import_records is (declaration_records ds)) ≡ is
imports_are [] ds w = stop imports_of (λ r p rs. (refl, refl, refl)) ds
imports_are (i ∷ is) ds w = rw (imports_are is ds w.1) (ap (λ (j : Import). j ∷ is) (import_is i w.0))

declarations_past_imports : (is : List Import) (rs : List Token) → declarations_of (import_records is rs) ≡ declarations_of rs
declarations_past_imports [] rs = refl
declarations_past_imports (i ∷ is) rs = declarations_past_imports is rs

module _ (is : List Import) (ds : List Declaration) where
  opening_is : (ps : List Bytes) → CommentWithin ps → opening_of (comment_records ps (import_records is (declaration_records ds))) ≡ ps
  opening_is [] w = go is
    where
      go : (is : List Import) → opening_of (import_records is (declaration_records ds)) ≡ []
      go [] = stop opening_of (λ r p rs. (refl, refl, refl)) ds
      go (i ∷ is) = refl
  opening_is (p ∷ ps) w = unfold paragraphs_of in (paragraphs_found 32 (p ∷ ps) w.few w.each).1

  imports_past : (ps : List Bytes) (rs : List Token) → imports_of (comment_records ps rs) ≡ imports_of rs
  imports_past [] rs = refl
  imports_past (p ∷ ps) rs = refl

  declarations_past_comment : (ps : List Bytes) (rs : List Token) → declarations_of (comment_records ps rs) ≡ declarations_of rs
  declarations_past_comment [] rs = refl
  declarations_past_comment (p ∷ ps) rs = refl

pub schema_is : (s : Schema) → Within s → schema_of (schema_records s) ≡ s
schema_is s w = λ i. record { comment = opening_is is ds ps w.comment i; imports = imports i; declarations = declarations i }
  where
    ps : List Bytes
    ps = s.comment

    is : List Import
    is = s.imports

    ds : List Declaration
    ds = s.declarations

    imports : imports_of (schema_records s) ≡ is
    imports = imports_past is ds ps (import_records is (declaration_records ds)) ∙ imports_are is ds w.imports

    declarations : declarations_of (schema_records s) ≡ ds
    declarations =
        declarations_past_comment is ds ps (import_records is (declaration_records ds))
        ∙ declarations_past_imports is (declaration_records ds)
        ∙ declarations_are ds w.declarations
