-- The schema that a schema table holds: each part is read off the records, and stops where a record of another kind stands.
use Rattle.std.specs.Prelude.{ℕ, true, false, ◌||◌, List, [], ◌∷◌, eqb, get_or, drop}
use Rattle.std.proofs.Math.Option.{Option, none, some}
use Rattle.wire.specs.Bytes.{Bytes}
use Rattle.wire.specs.Le.{u16_at, u64_at}
use Rattle.wire.specs.Pick.{pick}
use Rattle.token.specs.Token.{Token}
use Rattle.token.specs.Payload.{paragraphs_of}
use Rattle.schema.specs.Ast.{Range, TypeVariant, Rule, Field, Import, DeclarationVariant, Declaration, Schema}
use Rattle.schema.specs.Kind.{s_comment, s_import, s_struct, s_choice, s_field, s_deleted, s_array, s_plain}
use Rattle.schema.specs.Payload.{name_of, after_name, indices_of}
use Rattle.schema.specs.Table.{records_of, is_type, is_schema_table}
use Rattle.schema.specs.Encode.{nowhere}

abbrev pub range_of : Token → Range
range_of r = record { start = r.start; end = r.end }

-- paragraphs after their count
abbrev pub comment_of : Bytes → List Bytes
comment_of p = paragraphs_of (drop 2 p)

-- the schema comment, which comes first
abbrev pub opening_of : List Token → List Bytes
opening_of [] = []
opening_of (r ∷ rs) = elim (eqb r.kind s_comment) [ true ↦ paragraphs_of r.payload | false ↦ [] ]

abbrev pub import_of : Token → Import
import_of r = record { range = range_of r; name = name_of r.payload; path = after_name r.payload }

-- the imports up to a record that is neither the schema comment's nor an import's
abbrev pub imports_of : List Token → List Import
imports_of [] = []
imports_of (r ∷ rs) =
    elim (eqb r.kind s_import) [
      | true ↦ import_of r ∷ imports_of rs
      | false ↦ elim (eqb r.kind s_comment) [ true ↦ imports_of rs | false ↦ [] ]
    ]

-- a name of zero bytes stands for none
abbrev pub optional : Bytes → Option Bytes
optional [] = none
optional (b ∷ bs) = some (b ∷ bs)

-- the type whose records come first; there is one after a field's record
abbrev pub type_of : List Token → TypeVariant
type_of [] = TypeVariant.plain nowhere 0
type_of (r ∷ rs) =
    elim (eqb r.kind s_array) [
      | true ↦ TypeVariant.array (range_of r) (type_of rs)
      | false ↦ elim (eqb r.kind s_plain) [
        | true ↦ TypeVariant.plain (range_of r) (u16_at r.payload 0)
        | false ↦ TypeVariant.custom (range_of r) (optional (name_of r.payload)) (after_name r.payload)
      ]
    ]

abbrev pub rule_of : ℕ → Rule
rule_of n = pick (eqb n 0) Rule.required (pick (eqb n 1) Rule.asymmetric Rule.optional)

abbrev pub field_of : Token → TypeVariant → Field
field_of r type =
    record {
      range = range_of r;
      comment = comment_of (after_name (drop 9 r.payload));
      rule = rule_of (get_or r.payload 0 0);
      name = name_of (drop 9 r.payload);
      type = type;
      index = u64_at r.payload 1;
    }

-- the fields up to a record that is neither a field's nor a type's
abbrev pub fields_of : List Token → List Field
fields_of [] = []
fields_of (r ∷ rs) =
    elim (eqb r.kind s_field) [
      | true ↦ field_of r (type_of rs) ∷ fields_of rs
      | false ↦ elim (is_type r.kind) [ true ↦ fields_of rs | false ↦ [] ]
    ]

-- the deleted indices after them
abbrev pub deleted_of : List Token → List ℕ
deleted_of [] = []
deleted_of (r ∷ rs) =
    elim (eqb r.kind s_deleted) [
      | true ↦ indices_of r.payload
      | false ↦ elim (eqb r.kind s_field || is_type r.kind) [ true ↦ deleted_of rs | false ↦ [] ]
    ]

abbrev pub variant_of : ℕ → DeclarationVariant
variant_of k = pick (eqb k s_struct) DeclarationVariant.struct DeclarationVariant.choice

abbrev pub declaration_of : Token → List Field → List ℕ → Declaration
declaration_of r fields deleted =
    record {
      range = range_of r;
      comment = comment_of (after_name r.payload);
      variant = variant_of r.kind;
      name = name_of r.payload;
      fields = fields;
      deleted = deleted;
    }

abbrev pub declarations_of : List Token → List Declaration
declarations_of [] = []
declarations_of (r ∷ rs) =
    elim (eqb r.kind s_struct || eqb r.kind s_choice) [
      | true ↦ declaration_of r (fields_of rs) (deleted_of rs) ∷ declarations_of rs
      | false ↦ declarations_of rs
    ]

abbrev pub schema_of : List Token → Schema
schema_of rs = record { comment = opening_of rs; imports = imports_of rs; declarations = declarations_of rs }

-- nothing exactly where the number is R9
unfoldable pub decode_schema : Bytes → Option Schema
decode_schema t = pick (is_schema_table t) (some (schema_of (records_of t))) none

-- A record as encoding writes it: 101 and 106 have the range 0,0. Decoding doesn't judge ranges.
abbrev pub settled : Token → Token
settled r =
    elim (eqb r.kind s_comment || eqb r.kind s_deleted) [
      | true ↦ record { kind = r.kind; start = 0; end = 0; payload = r.payload }
      | false ↦ r
    ]
