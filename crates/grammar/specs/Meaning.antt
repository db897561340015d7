-- What a derivation means: the schema, with its ranges. Document 01, "The grammar" and "Ranges".
use Rattle.std.specs.Prelude.{ℕ, Bool, List, [], ◌∷◌, map, eqb, ltb, length}
use Rattle.std.proofs.Math.Option.{Option, none, some}
use Rattle.wire.specs.Bytes.{Bytes}
use Rattle.wire.specs.Le.{le_number}
use Rattle.wire.specs.Pick.{pick}
use Rattle.identifier.specs.Order.{is_before}
use Rattle.stem.specs.Stem.{import_name}
use Rattle.token.specs.Token.{Token}
use Rattle.token.specs.Kind.{k_asymmetric, k_struct, k_unit}
use Rattle.token.specs.Payload.{paragraphs_of}
use Rattle.schema.specs.Ast.{TypeVariant, Rule, Field, Import, DeclarationVariant, Declaration, Schema}
use Rattle.grammar.specs.Tree.{TypeTree, array, plain, single, dotted, TypePart, FieldTree, DeletedPart}
use Rattle.grammar.specs.Tree.{DeclarationTree, AliasPart, ImportTree, SchemaTree}
use Rattle.grammar.specs.Place.{span, empty_at, first_of}
use Rattle.grammar.specs.Sort.{sort_by}

abbrev pub comment_of : Option Token → List Bytes
comment_of none = []
comment_of (some c) = paragraphs_of c.payload

abbrev pub type_of : TypeTree → TypeVariant
type_of (array l y r) = TypeVariant.array (span l r) (type_of y)
type_of (plain t) = TypeVariant.plain (span t t) t.kind
type_of (single n) = TypeVariant.custom (span n n) none n.payload
type_of (dotted i d n) = TypeVariant.custom (span i n) (some i.payload) n.payload

-- no type means Unit, with an empty range at the next token's start: in a derivation that is `=`
abbrev pub type_part_of : Option TypePart → Token → TypeVariant
type_part_of none next = TypeVariant.plain (empty_at next.start) k_unit
type_part_of (some p) next = type_of p.type

abbrev pub rule_of : Option Token → Rule
rule_of none = Rule.required
rule_of (some t) = pick (eqb t.kind k_asymmetric) Rule.asymmetric Rule.optional

abbrev pub number_of : Token → ℕ
number_of t = le_number t.payload

abbrev pub field_of : FieldTree → Field
field_of f =
    record {
      range = span (first_of f.comment (first_of f.rule f.name)) f.index;
      comment = comment_of f.comment;
      rule = rule_of f.rule;
      name = f.name.payload;
      type = type_part_of f.type f.equals;
      index = number_of f.index;
    }

abbrev pub variant_of : Token → DeclarationVariant
variant_of keyword = pick (eqb keyword.kind k_struct) DeclarationVariant.struct DeclarationVariant.choice

-- the indices after `deleted`, as they stand
abbrev pub deleted_of : Option DeletedPart → List ℕ
deleted_of none = []
deleted_of (some p) = map number_of p.indices

abbrev pub declaration_of : DeclarationTree → Declaration
declaration_of d =
    record {
      range = span (first_of d.head.comment d.head.keyword) d.right;
      comment = comment_of d.head.comment;
      variant = variant_of d.head.keyword;
      name = d.head.name.payload;
      fields = map field_of d.fields;
      deleted = sort_by ltb (deleted_of d.deleted);
    }

abbrev pub alias_of : Option AliasPart → Bytes
alias_of none = []
alias_of (some p) = p.name.payload

-- the identifier after `as`, else the stem of the path; empty where there is none
abbrev pub found_name : ImportTree → Bytes
found_name i = import_name i.path.payload (alias_of i.alias)

-- U+FFFD, where there is none
abbrev pub replacement : Bytes
replacement = 0xEF ∷ 0xBF ∷ 0xBD ∷ []

abbrev pub is_nameless : ImportTree → Bool
is_nameless i = eqb (length (found_name i)) 0

abbrev pub name_of : ImportTree → Bytes
name_of i = pick (is_nameless i) replacement (found_name i)

abbrev pub last_of : Token → Option AliasPart → Token
last_of path none = path
last_of path (some p) = p.name

abbrev pub import_of : ImportTree → Import
import_of i = record { range = span i.keyword (last_of i.path i.alias); name = name_of i; path = i.path.payload }

abbrev pub comes_before : Import → Import → Bool
comes_before i j = is_before i.name j.name

abbrev pub schema_of : SchemaTree → Schema
schema_of s =
    record {
      comment = comment_of s.comment;
      imports = sort_by comes_before (map import_of s.imports);
      declarations = map declaration_of s.declarations;
    }
