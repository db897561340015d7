-- Document 01, "Canonical text": what schema.rs writes of a schema, in its order. Each line ends in a newline.
use Rattle.std.specs.Prelude.{ℕ, ◌-◌, Bool, true, false, ◌||◌, ◌&&◌, not, eqb, length}
use Rattle.std.proofs.Math.Option.{Option, none, some}
use mathlib.Core.List.{List, [], ◌∷◌, ◌++◌, flat_map}
use Rattle.wire.specs.Bytes.{Bytes, bytes}
use Rattle.wire.specs.Pick.{pick}
use Rattle.wire.specs.Decimal.{decimal}
use Rattle.identifier.specs.Forms.{snake_of, pascal_of}
use Rattle.identifier.specs.Order.{same_name}
use Rattle.stem.specs.Stem.{stem_of}
use Rattle.token.specs.Kind.{k_bool, k_bytes, k_f64, k_s64, k_string, k_u64, k_unit}
use Rattle.schema.specs.Ast.{TypeVariant, array, plain, custom, Rule, required, asymmetric, optional}
use Rattle.schema.specs.Ast.{Field, Import, DeclarationVariant, struct, choice, Declaration, Schema}
use Rattle.text.specs.Wrap.{wrap}

abbrev pub is_empty {ℓ} : {A : Type ℓ} → List A → Bool
is_empty [] = true
is_empty (x ∷ xs) = false

abbrev pub newline : Bytes
newline = bytes "\n"

-- a blank line, where there is to be one
unfoldable pub blank : Bool → Bytes
blank b = pick b newline []

-- the indentation of a field
abbrev pub four : Bytes
four = bytes "    "

-- 79 columns, of which the indentation and `# ` take some
abbrev pub width_after : Bytes → ℕ
width_after indentation = 77 - length indentation

unfoldable pub line_text : Bytes → Bytes → Bytes
line_text indentation line = indentation ++ bytes "# " ++ line ++ newline

unfoldable pub paragraph_text : Bytes → Bytes → Bytes
paragraph_text indentation paragraph = flat_map (line_text indentation) (wrap (width_after indentation) paragraph)

-- a line of `#` stands before each paragraph that comes later than another
unfoldable pub mark : Bytes → Bool → Bytes
mark indentation later = pick later (indentation ++ bytes "#\n") []

abbrev pub paragraphs_text : Bytes → Bool → List Bytes → Bytes
paragraphs_text indentation later [] = []
paragraphs_text indentation later (p ∷ ps) = mark indentation later ++ paragraph_text indentation p ++ paragraphs_text indentation true ps

abbrev pub comment_text : Bytes → List Bytes → Bytes
comment_text indentation paragraphs = paragraphs_text indentation false paragraphs

-- there is an inferred name and it equals the import's; a path without a stem has the empty one
unfoldable pub is_inferred : Bytes → Bytes → Bool
is_inferred name path = pick (eqb (length (stem_of path)) 0) false (same_name (stem_of path) name)

unfoldable pub import_text : Bytes → Bytes → Bytes
import_text name path =
    pick (is_inferred name path) (bytes "import '" ++ path ++ bytes "'\n")
    (bytes "import '" ++ path ++ bytes "' as " ++ snake_of name ++ newline)

abbrev pub imports_text : List Import → Bytes
imports_text [] = []
imports_text (i ∷ is) = import_text i.name i.path ++ imports_text is

unfoldable pub plain_text : ℕ → Bytes
plain_text kind =
    pick (eqb kind k_bool) (bytes "Bool")
    (pick (eqb kind k_bytes) (bytes "Bytes")
    (pick (eqb kind k_f64) (bytes "F64")
    (pick (eqb kind k_s64) (bytes "S64") (pick (eqb kind k_string) (bytes "String") (pick (eqb kind k_u64) (bytes "U64") (bytes "Unit"))))))

abbrev pub custom_text : Option Bytes → Bytes → Bytes
custom_text none name = pascal_of name
custom_text (some import) name = snake_of import ++ bytes "." ++ pascal_of name

abbrev pub type_text : TypeVariant → Bytes
type_text (array range inner) = bytes "[" ++ type_text inner ++ bytes "]"
type_text (plain range kind) = plain_text kind
type_text (custom range import name) = custom_text import name

abbrev pub is_unit : TypeVariant → Bool
is_unit (array range inner) = false
is_unit (plain range kind) = eqb kind k_unit
is_unit (custom range import name) = false

abbrev pub rule_text : Rule → Bytes
rule_text required = []
rule_text asymmetric = bytes "asymmetric "
rule_text optional = bytes "optional "

-- a field's line has three parts
unfoldable pub field_name : List Bytes → Rule → Bytes → Bytes
field_name comment rule name = comment_text four comment ++ four ++ rule_text rule ++ snake_of name

unfoldable pub field_type : TypeVariant → Bytes
field_type type = pick (is_unit type) [] (bytes ": " ++ type_text type)

unfoldable pub field_index : ℕ → Bytes
field_index index = bytes " = " ++ decimal index ++ newline

unfoldable pub field_text : Field → Bytes
field_text f = field_name f.comment f.rule f.name ++ field_type f.type ++ field_index f.index

abbrev pub has_comment : Field → Bool
has_comment f = not (is_empty f.comment)

-- a blank line stands between two fields of which one has a comment
abbrev pub fields_text : Bool → Bool → List Field → Bytes
fields_text later commented [] = []
fields_text later commented (f ∷ fs) = blank (later && (commented || has_comment f)) ++ field_text f ++ fields_text true (has_comment f) fs

unfoldable pub index_text : ℕ → Bytes
index_text n = bytes " " ++ decimal n

-- nothing where no index is deleted; a blank line parts it from the fields, where there are any
unfoldable pub deleted_text : Bool → List ℕ → Bytes
deleted_text after_fields indices =
    pick (is_empty indices) [] (blank after_fields ++ bytes "    deleted" ++ flat_map index_text indices ++ newline)

abbrev pub variant_text : DeclarationVariant → Bytes
variant_text struct = bytes "struct "
variant_text choice = bytes "choice "

unfoldable pub head_text : List Bytes → DeclarationVariant → Bytes → Bytes
head_text comment variant name = comment_text [] comment ++ variant_text variant ++ pascal_of name ++ bytes " {\n"

unfoldable pub declaration_text : Declaration → Bytes
declaration_text d =
    head_text d.comment d.variant d.name
    ++ fields_text false false d.fields
    ++ deleted_text (not (is_empty d.fields)) d.deleted
    ++ bytes "}\n"

-- each declaration stands after a blank line, the first one only where there are imports
abbrev pub declarations_text : Bool → List Declaration → Bytes
declarations_text parted [] = []
declarations_text parted (d ∷ ds) = blank parted ++ declaration_text d ++ declarations_text true ds

-- the schema's comment, parted by a blank line from what follows
unfoldable pub opening_text : Schema → Bytes
opening_text s =
    comment_text [] s.comment ++ blank (not (is_empty s.comment) && (not (is_empty s.imports) || not (is_empty s.declarations)))

unfoldable pub text_of : Schema → Bytes
text_of s = opening_text s ++ imports_text s.imports ++ declarations_text (not (is_empty s.imports)) s.declarations
