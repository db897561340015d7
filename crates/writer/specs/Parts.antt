-- What stands at a place of a schema table, as part of a schema.
use Rattle.std.specs.Prelude.{ℕ, Bool, not, ◌++◌, eqb, get_or, drop}
use Rattle.wire.specs.Bytes.{Bytes}
use Rattle.wire.specs.Le.{u16_at, u64_at}
use Rattle.wire.specs.Pick.{pick}
use Rattle.schema.specs.Ast.{TypeVariant, Declaration}
use Rattle.schema.specs.Kind.{s_plain}
use Rattle.schema.specs.Limits.{nesting}
use Rattle.schema.specs.Payload.{is_plain_type, is_custom, name_of, after_name}
use Rattle.schema.specs.Decode.{optional, comment_of, rule_of, type_of, fields_of, deleted_of, declaration_of}
use Rattle.schema.specs.Walk.{records_from, next_at, token_at}
use Rattle.text.specs.Text.{is_empty, plain_text, custom_text, field_name, field_type, field_index}

abbrev pub type_at : Bytes → ℕ → TypeVariant
type_at t at = type_of (records_from t at)

-- how many arrays the type has
abbrev pub depth_at : Bytes → ℕ → ℕ
depth_at t at = nesting (type_at t at)

-- a type that is no array, by its record's kind and payload: its rule and its text
unfoldable pub is_base : ℕ → Bytes → Bool
is_base kind p = pick (eqb kind s_plain) (is_plain_type p) (is_custom p)

unfoldable pub base_text : ℕ → Bytes → Bytes
base_text kind p = pick (eqb kind s_plain) (plain_text (u16_at p 0)) (custom_text (optional (name_of p)) (after_name p))

-- a field's text, from its record's payload and its type
unfoldable pub field_from : Bytes → TypeVariant → Bytes
field_from p type = field_name (comment_of (after_name (drop 9 p))) (rule_of (get_or p 0 0)) (name_of (drop 9 p)) ++ field_type type ++ field_index (u64_at p 1)

unfoldable pub is_commented : Bytes → Bool
is_commented p = not (is_empty (comment_of (after_name (drop 9 p))))

abbrev pub declaration_at : Bytes → ℕ → Declaration
declaration_at t at = declaration_of (token_at t at) (fields_of (records_from t (next_at t at))) (deleted_of (records_from t (next_at t at)))
