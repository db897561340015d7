-- Document 01, "Tables": what a schema table's record may hold, by its kind. Each record is filled exactly.
use Rattle.std.specs.Prelude.{ℕ, zero, suc, ◌+◌, ◌/◌, ◌%◌, Bool, false, ◌&&◌, ◌||◌, List, [], ◌∷◌, leb, ltb, eqb, length, get_or, drop}
use Rattle.wire.specs.Bytes.{Bytes}
use Rattle.wire.specs.Le.{u16_at, u64_at}
use Rattle.wire.specs.Pick.{pick}
use Rattle.identifier.specs.Name.{is_name}
use Rattle.token.specs.Kind.{is_plain}
use Rattle.token.specs.Payload.{is_path, is_comment, are_paragraphs, paragraph_of, after_paragraph, paragraphs_of}
use Rattle.schema.specs.Kind.{s_comment, s_import, s_struct, s_choice, s_field, s_deleted, s_array, s_plain, s_custom}
use Rattle.schema.specs.Order.{is_chain}

-- a name stands after its length, as a paragraph does: the name, and what follows it
abbrev pub name_of : Bytes → Bytes
name_of = paragraph_of

abbrev pub after_name : Bytes → Bytes
after_name = after_paragraph

-- a u16 length and as many bytes
unfoldable pub is_sized : Bytes → Bool
is_sized p = leb 2 (length p) && leb (2 + u16_at p 0) (length p)

-- such a name first
unfoldable pub is_named : Bytes → Bool
is_named p = is_sized p && is_name (name_of p)

-- 102: a name and a path
unfoldable pub is_import : Bytes → Bool
is_import p = is_named p && is_path (after_name p)

-- a count and as many paragraphs
unfoldable pub is_counted : Bytes → Bool
is_counted p = leb 2 (length p) && (are_paragraphs 32 (drop 2 p) && eqb (u16_at p 0) (length (paragraphs_of (drop 2 p))))

-- 103, 104: a name and a comment
unfoldable pub is_declaration : Bytes → Bool
is_declaration p = is_named p && is_counted (after_name p)

-- 105: a rule, an index, then what a declaration has
unfoldable pub is_field : Bytes → Bool
is_field p = leb 9 (length p) && (leb (get_or p 0 0) 2 && is_declaration (drop 9 p))

-- the first n of the u64s in these bytes
abbrev pub indices_in : ℕ → Bytes → List ℕ
indices_in zero p = []
indices_in (suc n) p = u64_at p 0 ∷ indices_in n (drop 8 p)

unfoldable pub indices_of : Bytes → List ℕ
indices_of p = indices_in (length p / 8) p

-- 106: indices, at least one, ascending
unfoldable pub is_deleted : Bytes → Bool
is_deleted p = leb 1 (length p) && (eqb (length p % 8) 0 && is_chain ltb (indices_of p))

-- 108: the token kind of a plain type
unfoldable pub is_plain_type : Bytes → Bool
is_plain_type p = eqb (length p) 2 && is_plain (u16_at p 0)

-- 109: the name of an import, of which a length of zero stands for none, and of a type
unfoldable pub is_custom : Bytes → Bool
is_custom p = is_sized p && ((eqb (u16_at p 0) 0 || is_name (name_of p)) && is_name (after_name p))

-- a type's payload, by its kind; an array's is empty
unfoldable pub is_type_payload : ℕ → Bytes → Bool
is_type_payload kind p =
    pick (eqb kind s_array) (eqb (length p) 0)
    (pick (eqb kind s_plain) (is_plain_type p)
    (pick (eqb kind s_custom) (is_custom p)
    false))

-- a payload, by its kind; no other kind stands in a schema table
unfoldable pub is_payload : ℕ → Bytes → Bool
is_payload kind p =
    pick (eqb kind s_comment) (is_comment p)
    (pick (eqb kind s_import) (is_import p)
    (pick (eqb kind s_struct || eqb kind s_choice) (is_declaration p)
    (pick (eqb kind s_field) (is_field p)
    (pick (eqb kind s_deleted) (is_deleted p)
    (is_type_payload kind p)))))
