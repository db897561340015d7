-- The records that one construct gives.
use Rattle.std.specs.Prelude.{ℕ, ◌++◌}
use Rattle.wire.specs.Bytes.{Bytes}
use Rattle.token.specs.Token.{Token}
use Rattle.schema.specs.Ast.{Range, Field}
use Rattle.schema.specs.Kind.{s_field}
use Rattle.schema.specs.Encode.{encode_record, sized, counted, encode_type, field_payload, declaration_kind}
use Rattle.grammar.specs.Tree.{HeadTree}
use Rattle.grammar.specs.Place.{span, first_of}
use Rattle.grammar.specs.Meaning.{comment_of, variant_of}
use Rattle.records.specs.declared.SourceRange.{SourceRange}
use Rattle.records.specs.declared.Rule.{Rule}
use Rattle.records.specs.declared.Rule.TheVariants.{Required, Asymmetric, Optional}

-- a range of the schema, as the writers hold it
abbrev pub source_range : Range → SourceRange
source_range r = record { start = r.start; end = r.end }

abbrev pub number_of : Rule → ℕ
number_of Required = 0
number_of Asymmetric = 1
number_of Optional = 2

-- a field, then its type
abbrev pub encode_field : Field → Bytes
encode_field f = encode_record s_field f.range (field_payload f) ++ encode_type f.type

-- a declaration by its head and the `}` that ends it, without what stands between them
abbrev pub encode_head : HeadTree → Token → Bytes
encode_head h right =
    encode_record (declaration_kind (variant_of h.keyword)) (span (first_of h.comment h.keyword) right)
    (sized h.name.payload ++ counted (comment_of h.comment))
