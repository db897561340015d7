-- The definitions computed: a schema with every kind of record and its table; tables that are none.
use mathlib.Core.Path.{◌≡◌, refl}
use mathlib.Core.Bool.{true, false}
use mathlib.Core.Option.{none, some}
use mathlib.Core.List.{[], ◌∷◌, ◌++◌, map}
use lib.ListN.{length, replicate}
use Prim.Native.Nat.{ℕ, zero, suc}
use Rattle.wire.specs.Bytes.{Bytes, bytes}
use Rattle.wire.specs.Le.{le_bytes, le_number, le_at}
use Rattle.wire.specs.Record.{record_bytes, head_bytes}
use Rattle.wire.specs.Pick.{pick}
use Rattle.token.specs.Kind.{k_u64, k_unit}
use Rattle.token.specs.Payload.{is_comment, is_path, is_paragraph, are_paragraphs, paragraph_of, after_paragraph, paragraphs_of, paragraph_bytes}
use Rattle.token.specs.Table.{token_of, is_whole}
use Rattle.identifier.specs.Order.{is_before, name_order}
use Rattle.identifier.specs.Forms.{snake_of}
use Rattle.identifier.specs.Name.{is_name}
use Rattle.identifier.specs.Byte.{lower_of}
use Rattle.schema.specs.Ast.{Range, TypeVariant, Rule, DeclarationVariant, Schema}
use Rattle.schema.specs.Encode.{encode_schema}
use Rattle.schema.specs.Payload.{is_sized, is_named, is_import, is_counted, is_declaration, is_field, indices_of}
use Rattle.schema.specs.Payload.{is_deleted, is_plain_type, is_custom, is_type_payload, is_payload}
use Rattle.schema.specs.Table.{records_of, is_framed, may_follow, is_later, row_after, is_right, is_next, is_schema_table}
use Rattle.schema.specs.Decode.{decode_schema}

abbrev span : ℕ → ℕ → Range
span a b = record { start = a; end = b }

abbrev everything : Schema
everything =
    record {
      comment = bytes "One." ∷ bytes "Two words." ∷ [];
      imports =
          record { range = span 1 2; name = bytes "opTable"; path = bytes "op_table.t" }
          ∷ record { range = span 3 4; name = bytes "ports"; path = [] }
          ∷ [];
      declarations =
          record {
            range = span 5 6;
            comment = bytes "A." ∷ [];
            variant = DeclarationVariant.struct;
            name = bytes "op_8d";
            fields =
                record {
                  range = span 7 8;
                  comment = [];
                  rule = Rule.required;
                  name = bytes "cycles";
                  type = TypeVariant.array (span 9 10) (TypeVariant.array (span 11 12) (TypeVariant.plain (span 13 14) k_u64));
                  index = 18446744073709551615;
                }
                ∷ record {
                  range = span 15 4294967295;
                  comment = bytes "x" ∷ [];
                  rule = Rule.optional;
                  name = bytes "at";
                  type = TypeVariant.custom (span 17 18) (some (bytes "ports")) (bytes "Port");
                  index = 1;
                }
                ∷ [];
            deleted = 2 ∷ 300 ∷ [];
          }
          ∷ record { range = span 19 20; comment = []; variant = DeclarationVariant.choice; name = bytes "B"; fields = []; deleted = [] }
          ∷ record {
            range = span 21 22;
            comment = [];
            variant = DeclarationVariant.choice;
            name = bytes "C";
            fields =
                record {
                  range = span 23 24;
                  comment = [];
                  rule = Rule.asymmetric;
                  name = bytes "c";
                  type = TypeVariant.custom (span 25 26) none (bytes "B");
                  index = 0;
                }
                ∷ [];
            deleted = [];
          }
          ∷ [];
    }

comes_back : decode_schema (encode_schema everything) ≡ some everything
unfolding encode_schema record_bytes head_bytes paragraph_bytes le_bytes decode_schema pick is_schema_table is_framed records_of is_next is_right may_follow is_later
    row_after is_payload is_type_payload is_name is_sized is_named is_import is_counted is_declaration is_field indices_of is_deleted is_plain_type is_custom token_of is_whole
    is_comment is_path is_paragraph are_paragraphs paragraph_of after_paragraph paragraphs_of le_number le_at is_before name_order snake_of lower_of
comes_back = refl

abbrev one : ℕ → Bytes → Bytes
one kind payload = record_bytes kind 3 2 payload

abbrev sized : Bytes → Bytes
sized name = le_bytes 2 (length name) ++ name

abbrev struct : Bytes
struct = one 103 (sized (bytes "A") ++ le_bytes 2 0)

abbrev field : Bytes
field = one 105 (0 ∷ le_bytes 8 0 ++ sized (bytes "x") ++ le_bytes 2 0)

abbrev unit : Bytes
unit = one 108 (le_bytes 2 k_unit)

abbrev arrays : ℕ → Bytes
arrays zero = unit
arrays (suc n) = one 107 [] ++ arrays n

abbrev import : Bytes → Bytes
import name = one 102 (sized name ++ bytes "a b")

-- ranges aren't judged; names may hold any printable byte; 64 arrays may nest
tables : map is_schema_table
    ([]
    ∷ one 101 (sized (bytes "a b"))
    ∷ import (bytes "a b")
    ∷ (import (bytes "aB") ++ import (bytes "b") ++ struct)
    ∷ (struct ++ field ++ arrays 64 ++ one 106 (le_bytes 8 1 ++ le_bytes 8 2))
    ∷ [])
    ≡ true ∷ true ∷ true ∷ true ∷ true ∷ []
unfolding record_bytes head_bytes paragraph_bytes le_bytes pick is_schema_table is_framed records_of is_next is_right may_follow is_later row_after is_payload is_type_payload
    is_name is_sized is_named is_import is_counted is_declaration is_field indices_of is_deleted is_plain_type is_custom token_of is_whole is_comment is_path is_paragraph
    are_paragraphs paragraph_of after_paragraph paragraphs_of le_number le_at is_before name_order snake_of lower_of
tables = refl

no_tables : map is_schema_table
    ((0 ∷ [])
    ∷ (struct ++ le_bytes 2 11)
    ∷ one 0 []
    ∷ one 110 []
    ∷ one 101 []
    ∷ one 101 (sized (bytes " a"))
    ∷ one 102 (sized [] ++ bytes "a")
    ∷ one 102 (sized (bytes "a") ++ bytes "'")
    ∷ (import (bytes "opTable") ++ import (bytes "op_table"))
    ∷ (import (bytes "b") ++ import (bytes "a"))
    ∷ (struct ++ import (bytes "a"))
    ∷ one 103 (sized (bytes "A"))
    ∷ one 103 (sized (bytes "A") ++ le_bytes 2 1)
    ∷ one 103 (sized (bytes "A") ++ le_bytes 2 0 ++ sized (bytes "a"))
    ∷ field
    ∷ (struct ++ field)
    ∷ (struct ++ unit)
    ∷ (struct ++ one 105 (3 ∷ le_bytes 8 0 ++ sized (bytes "x") ++ le_bytes 2 0) ++ unit)
    ∷ (struct ++ field ++ arrays 65)
    ∷ (struct ++ field ++ one 107 [])
    ∷ (struct ++ field ++ one 108 (le_bytes 2 5))
    ∷ (struct ++ field ++ one 109 (sized []))
    ∷ (struct ++ one 106 [])
    ∷ (struct ++ one 106 (le_bytes 8 1 ++ le_bytes 8 1))
    ∷ (struct ++ one 106 (le_bytes 8 1 ++ le_bytes 4 2))
    ∷ (struct ++ one 106 (le_bytes 8 1) ++ one 106 (le_bytes 8 2))
    ∷ (struct ++ one 106 (le_bytes 8 1) ++ field ++ unit)
    ∷ [])
    ≡ replicate 27 false
unfolding record_bytes head_bytes paragraph_bytes le_bytes pick is_schema_table is_framed records_of is_next is_right may_follow is_later row_after is_payload is_type_payload
    is_name is_sized is_named is_import is_counted is_declaration is_field indices_of is_deleted is_plain_type is_custom token_of is_whole is_comment is_path is_paragraph
    are_paragraphs paragraph_of after_paragraph paragraphs_of le_number le_at is_before name_order snake_of lower_of
no_tables = refl
