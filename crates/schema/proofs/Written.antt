-- A schema as the records of its table, in front of others.
use mathlib.Core.Path.{◌≡◌, refl, ◌∙◌}
use mathlib.Core.List.{List, [], ◌∷◌, ◌++◌, append_assoc}
use Prim.Native.Nat.{ℕ}
use Rattle.wire.specs.Bytes.{Bytes}
use Rattle.wire.specs.Le.{le_bytes}
use Rattle.token.specs.Token.{Token}
use Rattle.token.specs.Payload.{paragraph_bytes}
use Rattle.token.specs.Table.{encode_tokens}
use Rattle.schema.specs.Ast.{Range, TypeVariant, Field, Import, Declaration, Schema}
use Rattle.schema.specs.Kind.{s_comment, s_import, s_field, s_deleted, s_array, s_plain, s_custom}
use Rattle.schema.specs.Encode.{nowhere, sized, encode_comment, import_payload, encode_imports, import_part, encode_type, field_payload}
use Rattle.schema.specs.Encode.{encode_fields, indices, encode_deleted, declaration_kind, declaration_payload, encode_declarations, encode_schema}

abbrev pub made : ℕ → Range → Bytes → Token
made kind r payload = record { kind = kind; start = r.start; end = r.end; payload = payload }

abbrev pub comment_records : List Bytes → List Token → List Token
comment_records [] rs = rs
comment_records (p ∷ ps) rs = made s_comment nowhere (paragraph_bytes (p ∷ ps)) ∷ rs

abbrev pub import_records : List Import → List Token → List Token
import_records [] rs = rs
import_records (i ∷ is) rs = made s_import i.range (import_payload i) ∷ import_records is rs

abbrev pub type_records : TypeVariant → List Token → List Token
type_records (TypeVariant.array r inner) rs = made s_array r [] ∷ type_records inner rs
type_records (TypeVariant.plain r kind) rs = made s_plain r (le_bytes 2 kind) ∷ rs
type_records (TypeVariant.custom r import name) rs = made s_custom r (sized (import_part import) ++ name) ∷ rs

abbrev pub field_records : List Field → List Token → List Token
field_records [] rs = rs
field_records (f ∷ fs) rs = made s_field f.range (field_payload f) ∷ type_records f.type (field_records fs rs)

abbrev pub deleted_records : List ℕ → List Token → List Token
deleted_records [] rs = rs
deleted_records (n ∷ ns) rs = made s_deleted nowhere (indices (n ∷ ns)) ∷ rs

abbrev pub declaration_records : List Declaration → List Token
declaration_records [] = []
declaration_records (d ∷ ds) =
    made (declaration_kind d.variant) d.range (declaration_payload d)
    ∷ field_records d.fields (deleted_records d.deleted (declaration_records ds))

abbrev pub schema_records : Schema → List Token
schema_records s = comment_records s.comment (import_records s.imports (declaration_records s.declarations))

-- their bytes are the encoding
encode_type_lem : (y : TypeVariant) (rs : List Token) → encode_tokens (type_records y rs) ≡ encode_type y ++ encode_tokens rs
unfolding encode_tokens
encode_type_lem (TypeVariant.array r inner) rs = rw (encode_type_lem inner rs, append_assoc)
encode_type_lem (TypeVariant.plain r kind) rs = refl
encode_type_lem (TypeVariant.custom r import name) rs = refl

encode_fields_lem : (fs : List Field) (rs : List Token) → encode_tokens (field_records fs rs) ≡ encode_fields fs ++ encode_tokens rs
unfolding encode_tokens
encode_fields_lem [] rs = refl
encode_fields_lem (f ∷ fs) rs = rw (encode_type_lem f.type (field_records fs rs), encode_fields_lem fs rs) (simp append_assoc)

encode_deleted_lem : (ns : List ℕ) (rs : List Token) → encode_tokens (deleted_records ns rs) ≡ encode_deleted ns ++ encode_tokens rs
unfolding encode_tokens
encode_deleted_lem [] rs = refl
encode_deleted_lem (n ∷ ns) rs = refl

encode_declarations_lem : (ds : List Declaration) → encode_tokens (declaration_records ds) ≡ encode_declarations ds
unfolding encode_tokens
encode_declarations_lem [] = refl
encode_declarations_lem (d ∷ ds) =
    rw (
      encode_fields_lem d.fields (deleted_records d.deleted (declaration_records ds)),
      encode_deleted_lem d.deleted (declaration_records ds),
      encode_declarations_lem ds,
    )
    (simp append_assoc)

encode_imports_lem : (is : List Import) (rs : List Token) → encode_tokens (import_records is rs) ≡ encode_imports is ++ encode_tokens rs
unfolding encode_tokens
encode_imports_lem [] rs = refl
encode_imports_lem (i ∷ is) rs = rw (encode_imports_lem is rs) (simp append_assoc)

encode_comment_lem : (ps : List Bytes) (rs : List Token) → encode_tokens (comment_records ps rs) ≡ encode_comment ps ++ encode_tokens rs
unfolding encode_tokens
encode_comment_lem [] rs = refl
encode_comment_lem (p ∷ ps) rs = refl

pub encode_records : (s : Schema) → encode_tokens (schema_records s) ≡ encode_schema s
unfolding encode_schema
encode_records s =
    encode_comment_lem s.comment (import_records s.imports (declaration_records s.declarations))
    ∙ rw (encode_imports_lem s.imports (declaration_records s.declarations), encode_declarations_lem s.declarations) (simp append_assoc)
