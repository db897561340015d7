-- Schemas and their tables. Encoding and decoding are inverse to each other, between the schemas within the limits and the schema tables whose
-- records 101 and 106 have the range 0,0: encoding writes it, decoding doesn't judge it.
use mathlib.Core.Path.{◌≡◌, refl, sym, ap, ◌∙◌}
use mathlib.Core.Bool.{true, and-eq-true_iff}
use mathlib.Core.Option.{some}
use mathlib.Core.List.{List, [], ◌∷◌, map}
use lib.Dec.{ltb}
use Rattle.wire.specs.Bytes.{Bytes}
use Rattle.wire.specs.Pick.{pick}
use Rattle.wire.proofs.Numbers.{AllBytes}
use Rattle.token.specs.Token.{Token}
use Rattle.token.specs.Table.{encode_tokens}
use Rattle.schema.specs.Ast.{Schema, Declaration}
use Rattle.schema.specs.Encode.{encode_schema}
use Rattle.schema.specs.Order.{is_chain}
use Rattle.schema.specs.Table.{records_of, is_framed, is_schema_table}
use Rattle.schema.specs.Decode.{decode_schema, settled}
use Rattle.schema.specs.Limits.{Each, DeclarationWithin, is_earlier, Within}
use Rattle.schema.proofs.Records.{records_encode, framed_encode}
use Rattle.schema.proofs.RecordsBack.{Back, records_back}
use Rattle.schema.proofs.Written.{schema_records, encode_records}
use Rattle.schema.proofs.ReadBack.{schema_is}
use Rattle.schema.proofs.WriteBack.{SchemaParts, schema_parts}
use Rattle.schema.proofs.InOrder.{schema_next, schema_fits}
use Rattle.schema.proofs.Verdict.{decoded}

module _ (s : Schema) (w : Within s) where
  records_are : records_of (encode_schema s) ≡ schema_records s
  records_are = ap records_of (sym (encode_records s)) ∙ records_encode (schema_records s) (schema_fits s w)

  -- the encoding of a schema within the limits is a schema table
  pub encode_right : is_schema_table (encode_schema s) ≡ true
  unfolding is_schema_table
  encode_right = rw (ap is_framed (sym (encode_records s)) ∙ framed_encode (schema_records s) (schema_fits s w), records_are) (schema_next s w)

  -- and decodes to that schema
  pub decode_encode : decode_schema (encode_schema s) ≡ some s
  unfolding decode_schema pick
  decode_encode = rw (encode_right, records_are, schema_is s w)

-- equal encodings mean equal schemas
pub encode_unique : (s s' : Schema) → Within s → Within s' → encode_schema s ≡ encode_schema s' → s ≡ s'
encode_unique s s' w w' e = let p : some s ≡ some s' = sym (decode_encode s w) ∙ ap decode_schema e ∙ decode_encode s' w' in cc

module _ (t : Bytes) (a : AllBytes t) (s : Schema) (e : decode_schema t ≡ some s) where
  table : Back t
  unfolding is_schema_table
  table = records_back t a ((and-eq-true_iff (is_framed t) _).0 (decoded t s e).right).0

  parts : SchemaParts (records_of t)
  unfolding is_schema_table
  parts = schema_parts (records_of t) table.read ((and-eq-true_iff (is_framed t) _).0 (decoded t s e).right).1

  -- what a schema table decodes to is within the limits
  pub decode_within : Within s
  decode_within = rw (decoded t s e).schema parts.within

  -- and its encoding is the table, with those ranges 0,0
  pub encode_decode : encode_schema s ≡ encode_tokens (map settled (records_of t))
  encode_decode = sym (encode_records s) ∙ ap encode_tokens (ap schema_records (decoded t s e).schema ∙ parts.back)

  -- the table itself, where it has them so
  pub encode_decode_exact : Each (λ r. settled r ≡ r) (records_of t) → encode_schema s ≡ t
  encode_decode_exact h = encode_decode ∙ ap encode_tokens (same (records_of t) h) ∙ table.back
    where
      same : (rs : List Token) → Each (λ r. settled r ≡ r) rs → map settled rs ≡ rs
      same [] h = refl
      same (r ∷ rs) h = rw (h.0, same rs h.1)

  -- both orders are strict
  pub imports_ascend : is_chain is_earlier s.imports ≡ true
  imports_ascend = decode_within.ascending

  pub deleted_ascend : Each (λ d. is_chain ltb d.deleted ≡ true) s.declarations
  deleted_ascend = each s.declarations decode_within.declarations
    where
      each : (ds : List Declaration) → Each DeclarationWithin ds → Each (λ d. is_chain ltb d.deleted ≡ true) ds
      each [] w = tt
      each (d ∷ ds) w = (w.0.deleted.ascending, each ds w.1)
