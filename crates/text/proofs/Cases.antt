-- The canonical text of some schemas, by computing.
use Prim.Native.Nat.{ℕ}
use mathlib.Core.Path.{◌≡◌, refl}
use mathlib.Core.Option.{none, some}
use mathlib.Core.List.{List, [], ◌∷◌, ◌++◌, flat_map}
use lib.ListN.{replicate}
use Rattle.wire.specs.Bytes.{Bytes, bytes}
use Rattle.wire.specs.Pick.{pick}
use Rattle.wire.specs.Decimal.{decimal, digits}
use Rattle.identifier.specs.Byte.{lower_of, upper_of}
use Rattle.identifier.specs.Forms.{snake_of, pascal_of}
use Rattle.identifier.specs.Order.{same_name, name_order}
use Rattle.stem.specs.Stem.{stem_of, last_part, is_parent, cut}
use Rattle.token.specs.Kind.{k_string, k_u64, k_unit}
use Rattle.schema.specs.Ast.{Range, TypeVariant, array, plain, custom, Rule, required, asymmetric, optional}
use Rattle.schema.specs.Ast.{Field, Import, DeclarationVariant, struct, choice, Declaration, Schema}
use Rattle.text.specs.Wrap.{wrap}
use Rattle.text.specs.Text.{text_of, opening_text, import_text, is_inferred, line_text, paragraph_text, mark, plain_text, field_text}
use Rattle.text.specs.Text.{field_name, field_type, field_index, index_text, deleted_text, declaration_text, head_text, blank}

-- ranges are not printed
abbrev r : Range
r = record { start = 0; end = 0 }

abbrev field : List Bytes → Rule → Bytes → TypeVariant → ℕ → Field
field comment rule name type index = record { range = r; comment = comment; rule = rule; name = name; type = type; index = index }

abbrev declaration : List Bytes → DeclarationVariant → Bytes → List Field → List ℕ → Declaration
declaration comment variant name fields deleted =
    record { range = r; comment = comment; variant = variant; name = name; fields = fields; deleted = deleted }

abbrev imported : Bytes → Bytes → Import
imported name path = record { range = r; name = name; path = path }

abbrev schema : List Bytes → List Import → List Declaration → Schema
schema comment imports declarations = record { comment = comment; imports = imports; declarations = declarations }

-- document 01: the layout of opcode 0x8D
opcode : text_of (schema [] [] (declaration [] struct (bytes "op_8d") (field [] required (bytes "cycles") (plain r k_u64) 0 ∷ []) (1 ∷ 2 ∷ []) ∷ []))
    ≡ bytes "struct Op8d {\n    cycles: U64 = 0\n\n    deleted 1 2\n}\n"
unfolding text_of opening_text declaration_text head_text field_text field_name field_type field_index deleted_text index_text blank plain_text flat_map pick decimal
    digits snake_of pascal_of lower_of upper_of
opcode = refl

empty : text_of (schema [] [] []) ≡ []
unfolding text_of opening_text blank pick flat_map
empty = refl

-- a comment alone: `#` between its paragraphs, and no blank line after it
comment_only : text_of (schema (bytes "One." ∷ bytes "Two words." ∷ []) [] []) ≡ bytes "# One.\n#\n# Two words.\n"
unfolding text_of opening_text blank pick flat_map paragraph_text mark line_text wrap
comment_only = refl

-- a comment and a declaration without fields
deleted_only : text_of (schema (bytes "One." ∷ []) [] (declaration (bytes "Two." ∷ []) choice (bytes "_a-b") [] (0 ∷ 18446744073709551615 ∷ [])
    ∷ declaration [] struct (bytes "_") [] [] ∷ []))
    ≡ bytes "# One.\n\n# Two.\nchoice AB {\n    deleted 0 18446744073709551615\n}\n\nstruct  {\n}\n"
unfolding text_of opening_text declaration_text head_text field_text field_name field_type field_index deleted_text index_text blank plain_text flat_map pick decimal
    digits snake_of pascal_of lower_of upper_of paragraph_text mark line_text wrap
deleted_only = refl

-- `as` where the stem isn't the name by snake case, or there is none
imports : text_of (schema [] (imported (bytes "opTable") (bytes "a/op_table.t") ∷ imported (bytes "other") (bytes "op.t") ∷ imported (bytes "up") (bytes "a/..")
    ∷ imported (bytes "_") (bytes "..") ∷ []) (declaration [] struct (bytes "a") [] [] ∷ []))
    ≡ bytes "import 'a/op_table.t'\nimport 'op.t' as other\nimport 'a/..' as up\nimport '..' as \n\nstruct A {\n}\n"
unfolding text_of opening_text import_text is_inferred declaration_text head_text deleted_text blank flat_map pick snake_of pascal_of lower_of upper_of same_name name_order
    stem_of last_part is_parent cut
imports = refl

-- a field's own Unit type is omitted, that of an array is not; blank lines stand beside the fields that have a comment
fields : text_of (schema [] [] (declaration [] choice (bytes "HTTPPort")
    (field [] asymmetric (bytes "B") (plain r k_unit) 0
    ∷ field [] optional (bytes "c") (array r (plain r k_unit)) 1
    ∷ field (bytes "D." ∷ bytes "E." ∷ []) required (bytes "d") (array r (array r (custom r (some (bytes "opTable")) (bytes "op_8d")))) 22
    ∷ field [] required (bytes "e") (custom r none (bytes "op")) 3
    ∷ field [] required (bytes "f") (plain r k_string) 4
    ∷ []) [] ∷ []))
    ≡ bytes
    "choice HTTPPort {\n    asymmetric b = 0\n    optional c: [Unit] = 1\n\n    # D.\n    #\n    # E.\n    d: [[op_table.Op8d]] = 22\n\n    e: Op = 3\n    f: String = 4\n}\n"
unfolding text_of opening_text declaration_text head_text field_text field_name field_type field_index deleted_text index_text blank plain_text flat_map pick decimal
    digits snake_of pascal_of lower_of upper_of paragraph_text mark line_text wrap
fields = refl

-- a word of n letters
abbrev word : ℕ → Bytes
word n = replicate n 120

-- a line takes the next word where both and the space between them are at most as wide as the lines
lines_fit : wrap 7 (bytes "aaa bbb c ddddddddd e") ≡ bytes "aaa bbb" ∷ bytes "c" ∷ bytes "ddddddddd" ∷ bytes "e" ∷ []
unfolding wrap
lines_fit = refl

-- 77 columns, in fields 73
columns : paragraph_text [] (word 70 ++ bytes " " ++ word 6 ++ bytes " " ++ word 78 ++ bytes " y")
    ≡ bytes "# " ++ word 70 ++ bytes " " ++ word 6 ++ bytes "\n# " ++ word 78 ++ bytes "\n# y\n"
unfolding flat_map paragraph_text line_text wrap
columns = refl

columns_field : paragraph_text (bytes "    ") (word 70 ++ bytes " " ++ word 3 ++ bytes " zz")
    ≡ bytes "    # " ++ word 70 ++ bytes "\n    # " ++ word 3 ++ bytes " zz\n"
unfolding flat_map paragraph_text line_text wrap
columns_field = refl
