-- The text of a schema has at most four bytes for each byte of the schema's table. So a buffer of that size holds it, and nothing has to be measured.
use Prim.Native.Nat.{ℕ, zero, suc, ◌+◌, ◌*◌, ◌-◌, ◌/◌, ◌^◌, ◌≤◌, ◌<◌}
use mathlib.Core.Path.{◌≡◌, refl, ap}
use mathlib.Core.Bool.{Bool, true, false, ◌&&◌, ◌||◌, not, and-eq-true_iff}
use mathlib.Core.Option.{none, some}
use mathlib.Core.List.{List, [], ◌∷◌, ◌++◌, map, flat_map}
use native.Mathlib.Nat.{pow-succ'}
use native.Mathlib.Omega.{arith}
use borrow.Author.Tests.{ltb-true, ltb-false}
use lib.Dec.{ltb, eqb}
use lib.ListN.{length, length-append}
use Rattle.wire.specs.Bytes.{Bytes}
use Rattle.wire.specs.Record.{record_bytes}
use Rattle.wire.specs.Pick.{pick}
use Rattle.wire.specs.Decimal.{decimal}
use Rattle.wire.proofs.Numbers.{AllBytes, le_bytes-length, decimal_small, decimal_step}
use Rattle.identifier.specs.Byte.{within, is_printable}
use Rattle.identifier.specs.Forms.{snake_of, pascal_of}
use Rattle.identifier.proofs.Length as form
use Rattle.token.specs.Payload.{is_spaced, is_paragraph, paragraph_bytes, all_paragraphs}
use Rattle.token.specs.Token.{Token}
use Rattle.token.specs.Table.{encode_tokens}
use Rattle.token.proofs.Encode.{head_length}
use Rattle.schema.specs.Ast.{TypeVariant, Rule, Field, Import, DeclarationVariant, Declaration, Schema}
use Rattle.schema.specs.Kind.{s_comment, s_deleted}
use Rattle.schema.specs.Limits.{Each, CommentWithin, FieldWithin, DeclarationWithin, Within}
use Rattle.schema.specs.Encode.{encode_comment, encode_imports, encode_type, encode_fields, encode_deleted, encode_declarations, encode_schema}
use Rattle.schema.specs.Table.{records_of, is_framed, is_schema_table}
use Rattle.schema.specs.Decode.{settled, decode_schema}
use Rattle.schema.proofs.RecordsBack.{records_back}
use Rattle.schema.proofs.Verdict.{decoded}
use Rattle.schema.proofs.RoundTrip.{decode_within, encode_decode}
use Rattle.schema.proofs.Parts.{indices-length}
use Rattle.text.specs.Wrap.{words_of, lines_from, wrap}
use Rattle.text.specs.Text.{is_empty, four, blank, line_text, paragraph_text, mark, paragraphs_text, import_text, imports_text}
use Rattle.text.specs.Text.{plain_text, type_text, rule_text, field_name, field_type, field_index, field_text, fields_text, has_comment}
use Rattle.text.specs.Text.{index_text, deleted_text, variant_text, head_text, declaration_text, declarations_text, opening_text, text_of}
use Rattle.text.proofs.Wrap.{lines_keep}

-- either of two short texts
pick_short : (b : Bool) (x y : Bytes) (n : ℕ) → length x ≤ n → length y ≤ n → length (pick b x y) ≤ n
unfolding pick
pick_short true x y n h k = h
pick_short false x y n h k = k

record_length : (kind start end : ℕ) (payload : Bytes) → length (record_bytes kind start end payload) ≡ 12 + length payload
unfolding record_bytes
record_length kind start end payload = rw (length-append, head_length)

-- names
snake_short : (name : Bytes) → length (snake_of name) ≤ 2 * length name
snake_short name = omega (arith, form.snake_short name)

pascal_short : (name : Bytes) → length (pascal_of name) ≤ 2 * length name
pascal_short name = omega (arith, form.pascal_short name)

-- numbers
pub decimal_short : (k n : ℕ) → n < 10 ^ suc k → length (decimal n) ≤ suc k
decimal_short zero n h = rw (decimal_small n (omega arith)) (omega arith)
decimal_short (suc k) n h = go (ltb n 10) refl (decimal_short k (n / 10) (omega (arith, rw pow-succ' at h)))
  where
    go : (b : Bool) → ltb n 10 ≡ b → length (decimal (n / 10)) ≤ suc k → length (decimal n) ≤ suc (suc k)
    go true e f = rw (decimal_small n (ltb-true n 10 e)) (omega arith)
    go false e f = rw (decimal_step n (ltb-false n 10 e), length-append) (omega arith)

number_short : (n : ℕ) → n < 18446744073709551616 → length (decimal n) ≤ 20
number_short n h = decimal_short 19 n (omega arith)

-- Paragraphs. A line has `around` bytes around it at the most, and each word begins at most one.
abbrev spread : ℕ → List Bytes → ℕ
spread around [] = 0
spread around (w ∷ ws) = length w + around + spread around ws

words_spread : (around : ℕ) (p : Bytes)
    → length (words_of p).first + spread around (words_of p).later + length (words_of p).later ≡ length p + around * length (words_of p).later
words_spread around [] = omega arith
words_spread around (b ∷ bs) = go (eqb b 32) refl (words_spread around bs)
  where
    go : (t : Bool) → eqb b 32 ≡ t
        → length (words_of bs).first + spread around (words_of bs).later + length (words_of bs).later ≡ length bs + around * length (words_of bs).later
        → length (words_of (b ∷ bs)).first + spread around (words_of (b ∷ bs)).later + length (words_of (b ∷ bs)).later
        ≡ length (b ∷ bs) + around * length (words_of (b ∷ bs)).later
    go true e h = rw (e, words_of) (omega arith)
    go false e h = rw (e, words_of) (omega arith)

lines_short : (indentation : Bytes) (around : ℕ) → length indentation + 3 ≤ around → (width : ℕ) (words : List Bytes) (line : Bytes)
    → length (flat_map (line_text indentation) (lines_from width line words)) ≤ length line + around + spread around words
unfolding flat_map line_text
lines_short indentation around h width =
    lines_keep width (λ line words ls. length (flat_map (line_text indentation) ls) ≤ length line + around + spread around words)
    (λ line. simp length-append (omega arith))
    (λ line word words ls k g. omega (arith, simp length-append at g))
    (λ line word words ls k g. simp length-append (omega arith))

-- no two spaces together, so that every other byte begins a word at the most
abbrev one : Bool → ℕ
one true = 1
one false = 0

few_words : (gap : Bool) (p : Bytes) → is_spaced gap p ≡ true → 2 * length (words_of p).later + one gap ≤ length p
few_words true [] e = let z : ◌≡◌ {A = ℕ} 0 1 = cc in absurd (omega arith)
few_words false [] e = omega arith
few_words gap (b ∷ bs) e =
    go (eqb b 32) refl (few_words (eqb b 32) bs ((and-eq-true_iff (not (gap && eqb b 32)) _).0 ((and-eq-true_iff (is_printable b) _).0 e).1).1) gap e
  where
    go : (t : Bool) → eqb b 32 ≡ t → 2 * length (words_of bs).later + one (eqb b 32) ≤ length bs
        → (gap : Bool) → is_spaced gap (b ∷ bs) ≡ true → 2 * length (words_of (b ∷ bs)).later + one gap ≤ length (b ∷ bs)
    go true q h true e = let f : not (eqb b 32) ≡ true = ((and-eq-true_iff (not (eqb b 32)) _).0 ((and-eq-true_iff (is_printable b) _).0 e).1).0 in
        let z : ◌≡◌ {A = ℕ} 0 1 = cc (rw q at f) in absurd (omega arith)
    go true q h false e = rw (q, words_of) (omega (arith, rw q at h))
    go false q h true e = rw (q, words_of) (omega (arith, rw q at h))
    go false q h false e = rw (q, words_of) (omega (arith, rw q at h))

-- a paragraph and the `#` line before it are four bytes for each byte of the table, and `more`
abbrev Paragraphs : Bytes → ℕ → Type 0
Paragraphs indentation more = (p : Bytes) → is_paragraph p ≡ true → length (paragraph_text indentation p) + length indentation + 2 ≤ 4 * (2 + length p) + more

outer : Paragraphs [] 0
unfolding paragraph_text is_paragraph wrap
outer p e =
    omega (
      arith,
      lines_short [] 3 (omega arith) 77 (words_of p).later (words_of p).first,
      words_spread 3 p,
      few_words true p ((and-eq-true_iff (within 1 1024 (length p)) _).0 e).1,
    )

inner : Paragraphs four 2
unfolding paragraph_text is_paragraph wrap
inner p e =
    omega (
      arith,
      lines_short four 7 (omega arith) 73 (words_of p).later (words_of p).first,
      words_spread 7 p,
      few_words true p ((and-eq-true_iff (within 1 1024 (length p)) _).0 e).1,
    )

mark_short : (indentation : Bytes) (later : Bool) → length (mark indentation later) ≤ length indentation + 2
unfolding mark
mark_short indentation later = pick_short later _ _ _ (simp length-append (omega arith)) (omega arith)

paragraphs_short : (indentation : Bytes) (more : ℕ) → Paragraphs indentation more → (later : Bool) (ps : List Bytes) → all_paragraphs ps ≡ true
    → length (paragraphs_text indentation later ps) ≤ 4 * length (paragraph_bytes ps) + more * length ps
unfolding paragraph_bytes
paragraphs_short indentation more each later [] e = omega arith
paragraphs_short indentation more each later (p ∷ ps) e =
    let f = (and-eq-true_iff (is_paragraph p) _).0 e in
    simp (length-append, le_bytes-length) (omega (arith, mark_short indentation later, each p f.0, paragraphs_short indentation more each true ps f.1))

-- imports
import_short : (name path : Bytes) → length (import_text name path) ≤ 14 + length path + 2 * length name
unfolding import_text
import_short name path = pick_short _ _ _ _ (simp length-append (omega arith)) (simp length-append (omega (arith, snake_short name)))

imports_short : (is : List Import) → length (imports_text is) ≤ 4 * length (encode_imports is)
imports_short [] = omega arith
imports_short (i ∷ is) =
    simp (length-append, record_length, le_bytes-length) (omega (arith, import_short i.name i.path, imports_short is))

-- types
plain_short : (kind : ℕ) → length (plain_text kind) ≤ 6
unfolding plain_text
plain_short kind =
    pick_short _ _ _ 6 (omega arith)
    (pick_short _ _ _ 6 (omega arith)
    (pick_short _ _ _ 6 (omega arith)
    (pick_short _ _ _ 6 (omega arith) (pick_short _ _ _ 6 (omega arith) (pick_short _ _ _ 6 (omega arith) (omega arith))))))

type_short : (y : TypeVariant) → length (type_text y) + 50 ≤ 4 * length (encode_type y)
type_short (TypeVariant.array r inner) = simp (length-append, record_length) (omega (arith, type_short inner))
type_short (TypeVariant.plain r kind) = simp (record_length, le_bytes-length) (omega (arith, plain_short kind))
type_short (TypeVariant.custom r none name) = simp (length-append, record_length, le_bytes-length) (omega (arith, pascal_short name))
type_short (TypeVariant.custom r (some import) name) =
    simp (length-append, record_length, le_bytes-length) (omega (arith, snake_short import, pascal_short name))

-- fields
blank_short : (b : Bool) → length (blank b) ≤ 1
unfolding blank
blank_short b = pick_short b _ _ 1 (omega arith) (omega arith)

rule_short : (r : Rule) → length (rule_text r) ≤ 11
rule_short Rule.required = omega arith
rule_short Rule.asymmetric = omega arith
rule_short Rule.optional = omega arith

field_type_short : (y : TypeVariant) → length (field_type y) + 48 ≤ 4 * length (encode_type y)
unfolding field_type
field_type_short y =
    let t = type_short y in
    let k : length (field_type y) ≤ 4 * length (encode_type y) - 48 = pick_short _ _ _ _ (omega arith) (simp length-append (omega arith)) in
    omega arith

field_short : (f : Field) → FieldWithin f
    → length (field_text f) ≤ 55 + 4 * length (paragraph_bytes f.comment) + 2 * length f.name + 4 * length (encode_type f.type)
unfolding field_text field_name field_index
field_short f w =
    simp length-append (omega (
      arith,
      paragraphs_short four 2 inner false f.comment w.comment.each,
      w.comment.few,
      rule_short f.rule,
      snake_short f.name,
      field_type_short f.type,
      number_short f.index w.index,
    ))

fields_short : (later commented : Bool) (fs : List Field) → Each FieldWithin fs → length (fields_text later commented fs) ≤ 4 * length (encode_fields fs)
fields_short later commented [] w = omega arith
fields_short later commented (f ∷ fs) w =
    simp (length-append, record_length, le_bytes-length) (omega (
      arith,
      blank_short (later && (commented || has_comment f)),
      field_short f w.0,
      fields_short true (has_comment f) fs w.1,
    ))

-- deleted indices
indices_short : (ns : List ℕ) → Each (λ n. n < 18446744073709551616) ns → length (flat_map index_text ns) ≤ 21 * length ns
unfolding flat_map index_text
indices_short [] e = omega arith
indices_short (n ∷ ns) e = simp length-append (omega (arith, number_short n e.0, indices_short ns e.1))

deleted_short : (fields : Bool) (ns : List ℕ) → Each (λ n. n < 18446744073709551616) ns → length (deleted_text fields ns) ≤ 4 * length (encode_deleted ns)
unfolding deleted_text pick
deleted_short fields [] e = omega arith
deleted_short fields (n ∷ ns) e =
    simp (length-append, record_length, le_bytes-length) (omega (arith, blank_short fields, indices_short (n ∷ ns) e, indices-length ns))

-- declarations
variant_length : (v : DeclarationVariant) → length (variant_text v) ≡ 7
variant_length DeclarationVariant.struct = refl
variant_length DeclarationVariant.choice = refl

head_short : (comment : List Bytes) (v : DeclarationVariant) (name : Bytes) → all_paragraphs comment ≡ true
    → length (head_text comment v name) ≤ 10 + 4 * length (paragraph_bytes comment) + 2 * length name
unfolding head_text
head_short comment v name e =
    simp length-append (omega (arith, paragraphs_short [] 0 outer false comment e, variant_length v, pascal_short name))

declarations_short : (parted : Bool) (ds : List Declaration) → Each DeclarationWithin ds
    → length (declarations_text parted ds) ≤ 4 * length (encode_declarations ds)
unfolding declaration_text
declarations_short parted [] w = omega arith
declarations_short parted (d ∷ ds) w =
    simp (length-append, record_length, le_bytes-length) (omega (
      arith,
      blank_short parted,
      head_short d.comment d.variant d.name w.0.comment.each,
      fields_short false false d.fields w.0.fields,
      deleted_short (not (is_empty d.fields)) d.deleted w.0.deleted.each,
      declarations_short true ds w.1,
    ))

-- the schema
opening_short : (s : Schema) → CommentWithin s.comment → length (opening_text s) ≤ 4 * length (encode_comment s.comment)
unfolding opening_text
opening_short s w = go s.comment w.each _
  where
    go : (ps : List Bytes) → all_paragraphs ps ≡ true → (b : Bool)
        → length (paragraphs_text [] false ps ++ blank (not (is_empty ps) && b)) ≤ 4 * length (encode_comment ps)
    go [] e b = unfold blank pick in omega arith
    go (p ∷ ps) e b =
        omega (
          arith,
          length-append (paragraphs_text [] false (p ∷ ps)) (blank b),
          blank_short b,
          paragraphs_short [] 0 outer false (p ∷ ps) e,
          record_length s_comment 0 0 (paragraph_bytes (p ∷ ps)),
        )

pub text_short : (s : Schema) → Within s → length (text_of s) ≤ 4 * length (encode_schema s)
unfolding text_of encode_schema
text_short s w =
    simp length-append (omega (
      arith,
      opening_short s w.comment,
      imports_short s.imports,
      declarations_short (not (is_empty s.imports)) s.declarations w.declarations,
    ))

-- and a table that decodes is as long as its schema's: the ranges that encoding leaves out are as long as any
settled-length : (rs : List Token) → length (encode_tokens (map settled rs)) ≡ length (encode_tokens rs)
unfolding encode_tokens
settled-length [] = refl
settled-length (r ∷ rs) = go (eqb r.kind s_comment || eqb r.kind s_deleted) refl (settled-length rs)
  where
    go : (b : Bool) → (eqb r.kind s_comment || eqb r.kind s_deleted) ≡ b → length (encode_tokens (map settled rs)) ≡ length (encode_tokens rs)
        → length (encode_tokens (settled r ∷ map settled rs)) ≡ length (encode_tokens (r ∷ rs))
    go true e h = simp (e, settled, length-append, record_length, h)
    go false e h = simp (e, settled, length-append, record_length, h)

pub table_short : (t : Bytes) → AllBytes t → (s : Schema) → decode_schema t ≡ some s → length (text_of s) ≤ 4 * length t
unfolding is_schema_table
table_short t a s e =
    let f = ((and-eq-true_iff (is_framed t) _).0 (decoded t s e).right).0 in
    omega (
      arith,
      text_short s (decode_within t a s e),
      ap length (encode_decode t a s e),
      settled-length (records_of t),
      ap length (records_back t a f).back,
    )
