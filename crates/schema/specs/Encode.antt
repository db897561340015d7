-- Document 01, "Tables": a schema as its schema table. A name or path without a length runs to the record's end.
use Rattle.std.specs.Prelude.{ℕ, List, [], ◌∷◌, ◌++◌, length}
use Rattle.std.proofs.Math.Option.{Option, none, some}
use Rattle.wire.specs.Bytes.{Bytes}
use Rattle.wire.specs.Le.{le_bytes}
use Rattle.wire.specs.Record.{record_bytes}
use Rattle.token.specs.Payload.{paragraph_bytes}
use Rattle.schema.specs.Ast.{Range, TypeVariant, Rule, Field, Import, DeclarationVariant, Declaration, Schema}
use Rattle.schema.specs.Kind.{s_comment, s_import, s_struct, s_choice, s_field, s_deleted, s_array, s_plain, s_custom}

abbrev pub encode_record : ℕ → Range → Bytes → Bytes
encode_record kind r payload = record_bytes kind r.start r.end payload

-- the range of a record that has none
abbrev pub nowhere : Range
nowhere = record { start = 0; end = 0 }

-- a name after its u16 length
abbrev pub sized : Bytes → Bytes
sized name = le_bytes 2 (length name) ++ name

-- paragraphs after their u16 count
abbrev pub counted : List Bytes → Bytes
counted ps = le_bytes 2 (length ps) ++ paragraph_bytes ps

-- 101, only if there is a comment
abbrev pub encode_comment : List Bytes → Bytes
encode_comment [] = []
encode_comment (p ∷ ps) = encode_record s_comment nowhere (paragraph_bytes (p ∷ ps))

abbrev pub import_payload : Import → Bytes
import_payload i = sized i.name ++ i.path

abbrev pub encode_imports : List Import → Bytes
encode_imports [] = []
encode_imports (i ∷ is) = encode_record s_import i.range (import_payload i) ++ encode_imports is

-- the import's name of a custom type: zero bytes for none
abbrev pub import_part : Option Bytes → Bytes
import_part none = []
import_part (some name) = name

abbrev pub encode_type : TypeVariant → Bytes
encode_type (TypeVariant.array r inner) = encode_record s_array r [] ++ encode_type inner
encode_type (TypeVariant.plain r kind) = encode_record s_plain r (le_bytes 2 kind)
encode_type (TypeVariant.custom r import name) = encode_record s_custom r (sized (import_part import) ++ name)

abbrev pub rule_number : Rule → ℕ
rule_number Rule.required = 0
rule_number Rule.asymmetric = 1
rule_number Rule.optional = 2

abbrev pub field_payload : Field → Bytes
field_payload f = rule_number f.rule ∷ le_bytes 8 f.index ++ sized f.name ++ counted f.comment

abbrev pub encode_fields : List Field → Bytes
encode_fields [] = []
encode_fields (f ∷ fs) = encode_record s_field f.range (field_payload f) ++ encode_type f.type ++ encode_fields fs

abbrev pub indices : List ℕ → Bytes
indices [] = []
indices (n ∷ ns) = le_bytes 8 n ++ indices ns

-- 106, only if an index is deleted
abbrev pub encode_deleted : List ℕ → Bytes
encode_deleted [] = []
encode_deleted (n ∷ ns) = encode_record s_deleted nowhere (indices (n ∷ ns))

abbrev pub declaration_kind : DeclarationVariant → ℕ
declaration_kind DeclarationVariant.struct = s_struct
declaration_kind DeclarationVariant.choice = s_choice

abbrev pub declaration_payload : Declaration → Bytes
declaration_payload d = sized d.name ++ counted d.comment

abbrev pub encode_declarations : List Declaration → Bytes
encode_declarations [] = []
encode_declarations (d ∷ ds) =
    encode_record (declaration_kind d.variant) d.range (declaration_payload d)
    ++ encode_fields d.fields
    ++ encode_deleted d.deleted
    ++ encode_declarations ds

unfoldable pub encode_schema : Schema → Bytes
encode_schema s = encode_comment s.comment ++ encode_imports s.imports ++ encode_declarations s.declarations
