-- The schema table of what reading gives is at most twice as long as the token table: each part's records against its tokens' records.
use Prim.Native.Nat.{ℕ, zero, suc, ◌+◌, ◌*◌, ◌-◌, ◌≤◌}
use mathlib.Core.Path.{◌≡◌, refl, ap}
use mathlib.Core.Bool.{Bool, true, false}
use mathlib.Core.Option.{Option, none, some}
use mathlib.Core.List.{List, [], ◌∷◌, ◌++◌, map}
use native.Mathlib.Omega.{arith}
use native.Mathlib.Numerals.{sub-one}
use lib.Dec.{eqb, ltb}
use lib.ListN.{length, take, drop, length-append, length-take, length-drop, length-map}
use lib.Seq.{length-take-le}
use Rattle.wire.specs.Bytes.{Bytes}
use Rattle.wire.specs.Le.{le_bytes, u16_at}
use Rattle.wire.specs.Pick.{pick}
use Rattle.wire.specs.Record.{record_bytes}
use Rattle.wire.proofs.Numbers.{le_bytes-length}
use Rattle.stem.specs.Stem.{stem_of, import_name}
use Rattle.token.specs.Token.{Token}
use Rattle.token.specs.Kind.{k_unit}
use Rattle.token.specs.Payload.{paragraph_of, after_paragraph, paragraphs_in, paragraphs_of, paragraph_bytes}
use Rattle.token.specs.Table.{size_of, token_of, tokens, decode_from, decode, encode_tokens}
use Rattle.token.proofs.Records.{decode_end}
use Rattle.token.proofs.Walk.{opened, decode_small}
use Rattle.token.proofs.Encode.{head_length}
use Rattle.schema.specs.Ast.{Import, Field, Schema}
use Rattle.schema.specs.Kind.{s_comment, s_import, s_field, s_deleted, s_array, s_plain, s_custom}
use Rattle.schema.specs.Encode.{sized, counted, encode_comment, import_payload, encode_imports, import_part, encode_type, field_payload}
use Rattle.schema.specs.Encode.{encode_fields, indices, encode_deleted, declaration_kind, declaration_payload, encode_declarations, encode_schema}
use Rattle.grammar.specs.Tree.{TypeTree, array, plain, single, dotted, TypePart, FieldTree, DeletedPart, DeclarationTree, AliasPart, ImportTree}
use Rattle.grammar.specs.Tree.{SchemaTree, optionally, each, y_type, y_type_part, y_field, y_deleted, y_declaration, y_alias, y_import, y_body, yield}
use Rattle.grammar.specs.Sort.{insert, sort_by}
use Rattle.grammar.specs.Meaning.{comment_of, type_of, type_part_of, number_of, field_of, deleted_of, declaration_of}
use Rattle.grammar.specs.Meaning.{alias_of, replacement, is_nameless, name_of, import_of, comes_before, schema_of}
use Rattle.grammar.specs.Reading.{schema, parse, parse_schema}
use Rattle.grammar.proofs.Outcomes.{parse_schema_lem}
use Rattle.grammar.proofs.Demand3.{sound}
use Rattle.grammar.proofs.Sorting.{sort_length}
use Rattle.grammar.proofs.Stems.{stem_short}

-- how long the table of these tokens is
abbrev pub size : List Token → ℕ
size ts = length (encode_tokens ts)

record_length : (kind start end : ℕ) (p : Bytes) → length (record_bytes kind start end p) ≡ 12 + length p
unfolding record_bytes
record_length kind start end p = rw (length-append, head_length)

size_one : (t : Token) (ts : List Token) → size (t ∷ ts) ≡ 12 + length t.payload + size ts
unfolding encode_tokens
size_one t ts = rw (length-append, record_length)

size_none : size [] ≡ 0
unfolding encode_tokens
size_none = refl

-- a table is as long as its tokens say
sized_from : (n at last row : ℕ) (bs : Bytes) (ts : List Token) → decode_from n at last row bs ≡ tokens ts → size ts ≡ length bs
sized_from zero at last row [] ts e = let z = decode_end at last row 0 in let q : ts ≡ [] = cc in rw q size_none
sized_from (suc n) at last row [] ts e = let z = decode_end at last row (suc n) in let q : ts ≡ [] = cc in rw q size_none
sized_from zero at last row (b ∷ bs) ts e = let o = opened zero at last row (b ∷ bs) ts (omega arith) e in absurd (omega (arith, o.more))
sized_from (suc n) at last row (b ∷ bs) ts e =
    let x = b ∷ bs in
    let o = opened (suc n) at last row x ts (omega arith) e in
    let i = sized_from n _ _ _ (drop (size_of x) x) o.rest (rw sub-one at o.next) in
    rw o.whole (omega (
      arith,
      size_one (token_of x) o.rest,
      payload_length x o.good.fits.head o.good.fits.tail,
      i,
      length-drop (size_of x) x,
      o.good.fits.head,
      o.good.fits.tail,
    ))
  where
    payload_length : (x : Bytes) → 12 ≤ size_of x → size_of x ≤ length x → length (token_of x).payload ≡ size_of x - 12
    payload_length x h k = unfold token_of in length-take-le (size_of x - 12) (drop 12 x) (omega (arith, length-drop 12 x))

pub table_sized : (table : Bytes) (ts : List Token) → decode table ≡ tokens ts → size ts ≡ length table
table_sized table ts d = sized_from 4096 0 0 0 table ts (decode_small table ts d).1

-- Comments. This holds of any bytes: one byte alone is an empty paragraph, of two bytes.
paragraphs_length : (n : ℕ) (bs : Bytes) → length (paragraph_bytes (paragraphs_in n bs)) ≤ 2 * length bs
unfolding paragraph_bytes paragraph_of after_paragraph
paragraphs_length zero bs = omega arith
paragraphs_length (suc n) [] = omega arith
paragraphs_length (suc n) (b ∷ bs) =
    let x = b ∷ bs in
    let u = u16_at x 0 in
    let i = paragraphs_length n (drop u (drop 2 x)) in
    let p = take u (drop 2 x) in
    let e : paragraph_bytes (paragraphs_in (suc n) x) ≡ le_bytes 2 (length p) ++ p ++ paragraph_bytes (paragraphs_in n (drop u (drop 2 x))) = refl in
    omega (
      arith,
      i,
      ap length e,
      length-append (le_bytes 2 (length p) ++ p) (paragraph_bytes (paragraphs_in n (drop u (drop 2 x)))),
      length-append (le_bytes 2 (length p)) p,
      le_bytes-length 2 (length p),
      length-take u (drop 2 x),
      length-drop u (drop 2 x),
      length-drop 2 x,
    )

no_paragraphs : length (paragraph_bytes []) ≡ 0
unfolding paragraph_bytes
no_paragraphs = refl

optional_size : (o : Option Token) (r : List Token) → size r ≤ size (optionally ◌∷◌ o r)
optional_size none r = omega arith
optional_size (some t) r = omega (arith, size_one t r)

comment_twice : (o : Option Token) (r : List Token) → length (paragraph_bytes (comment_of o)) + 2 * size r ≤ 2 * size (optionally ◌∷◌ o r)
unfolding paragraphs_of
comment_twice none r = omega (arith, no_paragraphs)
comment_twice (some c) r = omega (arith, paragraphs_length 32 c.payload, size_one c r)

comment_length : (ps : List Bytes) → length (encode_comment ps) ≤ 12 + length (paragraph_bytes ps)
comment_length [] = omega arith
comment_length (p ∷ ps) = omega (arith, record_length s_comment 0 0 (paragraph_bytes (p ∷ ps)))

opening_twice : (o : Option Token) (r : List Token) → length (encode_comment (comment_of o)) + 2 * size r ≤ 2 * size (optionally ◌∷◌ o r)
unfolding paragraphs_of
opening_twice none r = omega arith
opening_twice (some c) r = omega (arith, comment_length (paragraphs_of c.payload), paragraphs_length 32 c.payload, size_one c r)

-- Types.
sized-length : (name : Bytes) → length (sized name) ≡ 2 + length name
sized-length name = rw (length-append, le_bytes-length)

counted-length : (ps : List Bytes) → length (counted ps) ≡ 2 + length (paragraph_bytes ps)
counted-length ps = rw (length-append, le_bytes-length)

custom_length : (start end : ℕ) (o : Option Bytes) (name : Bytes)
    → length (record_bytes s_custom start end (sized (import_part o) ++ name)) ≡ 14 + length (import_part o) + length name
custom_length start end o name = rw (record_length, length-append, sized-length) (omega arith)

plain_length : (start end kind : ℕ) → length (record_bytes s_plain start end (le_bytes 2 kind)) ≡ 14
plain_length start end kind = rw (record_length, le_bytes-length)

type_twice : (y : TypeTree) (r : List Token) → length (encode_type (type_of y)) + 2 * size r ≤ 2 * size (y_type y r)
type_twice (array l y c) r =
    omega (
      arith,
      length-append (record_bytes s_array l.start c.end []) (encode_type (type_of y)),
      record_length s_array l.start c.end [],
      type_twice y (c ∷ r),
      size_one l (y_type y (c ∷ r)),
      size_one c r,
    )
type_twice (plain t) r = omega (arith, plain_length t.start t.end t.kind, size_one t r)
type_twice (single n) r = omega (arith, custom_length n.start n.end none n.payload, size_one n r)
type_twice (dotted i d n) r =
    omega (arith, custom_length i.start n.end (some i.payload) n.payload, size_one i (d ∷ n ∷ r), size_one d (n ∷ r), size_one n r)

part_twice : (o : Option TypePart) (next : Token) (r : List Token)
    → length (encode_type (type_part_of o next)) + 2 * size r ≤ 14 + 2 * size (optionally y_type_part o r)
part_twice none next r = omega (arith, plain_length next.start next.start k_unit)
part_twice (some p) next r = omega (arith, type_twice p.type r, size_one p.colon (y_type p.type r))

-- Fields.
field_length : (f : Field) → length (field_payload f) ≡ 13 + length f.name + length (paragraph_bytes f.comment)
field_length f = simp (length-append, le_bytes-length) (omega arith)

field_twice : (f : FieldTree) (r : List Token)
    → 12 + length (field_payload (field_of f)) + length (encode_type (field_of f).type) + 2 * size r ≤ 2 * size (y_field f r)
field_twice f r =
    let r₁ = f.equals ∷ f.index ∷ r in
    let r₂ = f.name ∷ optionally y_type_part f.type r₁ in
    omega (
      arith,
      field_length (field_of f),
      comment_twice f.comment (optionally ◌∷◌ f.rule r₂),
      optional_size f.rule r₂,
      size_one f.name (optionally y_type_part f.type r₁),
      part_twice f.type f.equals r₁,
      size_one f.equals (f.index ∷ r),
      size_one f.index r,
    )

fields_twice : (fs : List FieldTree) (r : List Token) → length (encode_fields (map field_of fs)) + 2 * size r ≤ 2 * size (each y_field fs r)
fields_twice [] r = omega arith
fields_twice (f ∷ fs) r =
    let g = field_of f in
    let e = record_bytes s_field g.range.start g.range.end (field_payload g) in
    omega (
      arith,
      length-append (e ++ encode_type g.type) (encode_fields (map field_of fs)),
      length-append e (encode_type g.type),
      record_length s_field g.range.start g.range.end (field_payload g),
      field_twice f (each y_field fs r),
      fields_twice fs r,
    )

-- Deleted indices.
indices-length : (ns : List ℕ) → length (indices ns) ≡ 8 * length ns
indices-length [] = refl
indices-length (n ∷ ns) = omega (arith, length-append (le_bytes 8 n) (indices ns), le_bytes-length 8 n, indices-length ns)

run_twice : (ts r : List Token) → 24 * length ts + 2 * size r ≤ 2 * size (each ◌∷◌ ts r)
run_twice [] r = omega arith
run_twice (t ∷ ts) r = omega (arith, size_one t (each ◌∷◌ ts r), run_twice ts r)

deleted_length : (ns : List ℕ) → length (encode_deleted ns) ≤ 12 + 8 * length ns
deleted_length [] = omega arith
deleted_length (n ∷ ns) = omega (arith, record_length s_deleted 0 0 (indices (n ∷ ns)), indices-length (n ∷ ns))

deleted_twice : (o : Option DeletedPart) (r : List Token) → length (encode_deleted (sort_by ltb (deleted_of o))) + 2 * size r ≤ 2 * size (optionally y_deleted o r)
deleted_twice none r = omega arith
deleted_twice (some p) r =
    let ns = map number_of p.indices in
    omega (
      arith,
      deleted_length (sort_by ltb ns),
      sort_length ltb ns,
      length-map p.indices number_of,
      size_one p.deleted (each ◌∷◌ p.indices r),
      run_twice p.indices r,
    )

-- Declarations.
declarations_twice : (ds : List DeclarationTree) (r : List Token)
    → length (encode_declarations (map declaration_of ds)) + 2 * size r ≤ 2 * size (each y_declaration ds r)
declarations_twice [] r = omega arith
declarations_twice (d ∷ ds) r =
    let c = declaration_of d in
    let k = declaration_kind c.variant in
    let e = record_bytes k c.range.start c.range.end (declaration_payload c) in
    let fs = encode_fields c.fields in
    let x = encode_deleted c.deleted in
    let later = each y_declaration ds r in
    let r₁ = optionally y_deleted d.deleted (d.right ∷ later) in
    let r₂ = each y_field d.fields r₁ in
    omega (
      arith,
      length-append (e ++ fs ++ x) (encode_declarations (map declaration_of ds)),
      length-append (e ++ fs) x,
      length-append e fs,
      record_length k c.range.start c.range.end (declaration_payload c),
      length-append (sized c.name) (counted c.comment),
      sized-length c.name,
      counted-length c.comment,
      comment_twice d.head.comment (d.head.keyword ∷ d.head.name ∷ d.head.left ∷ r₂),
      size_one d.head.keyword (d.head.name ∷ d.head.left ∷ r₂),
      size_one d.head.name (d.head.left ∷ r₂),
      size_one d.head.left r₂,
      fields_twice d.fields r₁,
      deleted_twice d.deleted (d.right ∷ later),
      size_one d.right later,
      declarations_twice ds r,
    )

-- Imports. Sorting keeps their length.
abbrev import_length : Import → ℕ
import_length i = 14 + length i.name + length i.path

import_length_lem : (i : Import) (is : List Import) → length (encode_imports (i ∷ is)) ≡ import_length i + length (encode_imports is)
import_length_lem i is =
    omega (
      arith,
      length-append (record_bytes s_import i.range.start i.range.end (import_payload i)) (encode_imports is),
      record_length s_import i.range.start i.range.end (import_payload i),
      length-append (sized i.name) i.path,
      sized-length i.name,
    )

insert_same : (i : Import) (is : List Import) → length (encode_imports (insert comes_before i is)) ≡ import_length i + length (encode_imports is)
insert_same i [] = import_length_lem i []
insert_same i (j ∷ js) = go (comes_before j i) refl (insert_same i js)
  where
    go : (b : Bool) → comes_before j i ≡ b → length (encode_imports (insert comes_before i js)) ≡ import_length i + length (encode_imports js)
        → length (encode_imports (insert comes_before i (j ∷ js))) ≡ import_length i + length (encode_imports (j ∷ js))
    go true e ih = rw (e, insert) (omega (arith, ih, import_length_lem j (insert comes_before i js), import_length_lem j js))
    go false e ih = rw (e, insert) (import_length_lem i (j ∷ js))

sort_same : (is : List Import) → length (encode_imports (sort_by comes_before is)) ≡ length (encode_imports is)
sort_same [] = refl
sort_same (i ∷ is) = omega (arith, insert_same i (sort_by comes_before is), sort_same is, import_length_lem i is)

-- the stem of the path or the alias; U+FFFD has three bytes
name_length_lem : (i : ImportTree) → length (name_of i) ≤ 3 + length i.path.payload + length (alias_of i.alias)
unfolding import_name pick
name_length_lem i = go (is_nameless i) (eqb (length (alias_of i.alias)) 0)
  where
    go : (b c : Bool) → length (pick b replacement (pick c (stem_of i.path.payload) (alias_of i.alias)))
        ≤ 3 + length i.path.payload + length (alias_of i.alias)
    go true c = omega arith
    go false true = omega (arith, stem_short i.path.payload)
    go false false = omega arith

alias_twice : (o : Option AliasPart) (r : List Token) → length (alias_of o) + 2 * size r ≤ 2 * size (optionally y_alias o r)
alias_twice none r = omega arith
alias_twice (some p) r = omega (arith, size_one p.keyword (p.name ∷ r), size_one p.name r)

imports_twice : (is : List ImportTree) (r : List Token) → length (encode_imports (map import_of is)) + 2 * size r ≤ 2 * size (each y_import is r)
imports_twice [] r = omega arith
imports_twice (i ∷ is) r =
    let later = each y_import is r in
    omega (
      arith,
      import_length_lem (import_of i) (map import_of is),
      name_length_lem i,
      size_one i.keyword (i.path ∷ optionally y_alias i.alias later),
      size_one i.path (optionally y_alias i.alias later),
      alias_twice i.alias later,
      imports_twice is r,
    )

-- The schema.
pub tree_twice : (tree : SchemaTree) → length (encode_schema (schema_of tree)) ≤ 2 * size (yield tree)
unfolding encode_schema
tree_twice tree =
    let s = schema_of tree in
    omega (
      arith,
      length-append (encode_comment s.comment ++ encode_imports s.imports) (encode_declarations s.declarations),
      length-append (encode_comment s.comment) (encode_imports s.imports),
      sort_same (map import_of tree.imports),
      opening_twice tree.comment (y_body tree),
      imports_twice tree.imports (each y_declaration tree.declarations []),
      declarations_twice tree.declarations [],
    )

pub schema_twice : (table : Bytes) (ts : List Token) (s : Schema) → decode table ≡ tokens ts → parse ts ≡ schema s → length (encode_schema s) ≤ 2 * length table
schema_twice table ts s d p =
    let (tree, t, e) = sound ts s p in
    let l = ap size t.tokens in
    rw e (omega (arith, tree_twice tree, l, table_sized table ts d))

-- the same of what a reading without errors gives
pub read_twice : (table : Bytes) (ts : List Token) → decode table ≡ tokens ts → (parse_schema ts).errors ≡ []
    → length (encode_schema (schema_of (parse_schema ts).value)) ≤ 2 * length table
read_twice table ts d e = schema_twice table ts (schema_of (parse_schema ts).value) d (parse_schema_lem ts e)

-- so it is no longer than a schema table may be
pub schema_small : (table : Bytes) (ts : List Token) (s : Schema) → decode table ≡ tokens ts → parse ts ≡ schema s → length (encode_schema s) ≤ 131072
schema_small table ts s d p = omega (arith, schema_twice table ts s d p, (decode_small table ts d).0)
