-- Demand 3, on tokens and then on tables: reading answers a schema exactly where the grammar derives the tokens and the conditions hold, and
-- then it is that derivation's. specs/Tree is the grammar, specs/Derivation what it takes, specs/Meaning the schema of a tree, specs/Reading the
-- reader, specs/Answer the bytes. Each statement cites the file that proves it.
use Prim.Native.Nat.{ℕ, ◌≤◌}
use mathlib.Core.Path.{◌≡◌, ap, sym, ◌∙◌}
use mathlib.Core.List.{List, []}
use mathlib.Core.Logic.{◌↔◌}
use lib.ListN.{length}
use Rattle.wire.specs.Bytes.{Bytes}
use Rattle.token.specs.Token.{Token}
use Rattle.token.specs.Table.{tokens, decode}
use Rattle.schema.specs.Ast.{Schema}
use Rattle.schema.specs.Encode.{encode_schema}
use Rattle.grammar.specs.Tree.{SchemaTree, yield, Wf}
use Rattle.grammar.specs.Meaning.{schema_of}
use Rattle.grammar.specs.Error.{Error}
use Rattle.grammar.specs.Condition.{condition_errors}
use Rattle.grammar.specs.Derivation.{Derives}
use Rattle.grammar.specs.Reading.{Reading, parse_schema, schema, errors, outcome_of, parse}
use Rattle.grammar.specs.Answer.{Answer, answer_of, bytes_of, read_answer}
use Rattle.grammar.proofs.Conditions.{no_condition_errors}
use Rattle.grammar.proofs.Schemas.{schema_sound, schema_complete}
use Rattle.grammar.proofs.Outcomes.{answers, same_schema, schema≢errors, no_schema, table_schema, table_answer}

-- Every tree of the grammar is read; what it breaks of the conditions is all that is reported.
pub reports : (tree : SchemaTree) → Wf tree → parse (yield tree) ≡ outcome_of (record { errors = condition_errors tree; value = tree; rest = [] })
unfolding parse
reports tree w = ap outcome_of (schema_complete tree w)

-- A schema that is answered is the meaning of a derivation.
pub sound : (ts : List Token) (s : Schema) → parse ts ≡ schema s → (tree : SchemaTree) × Derives ts tree × (s ≡ schema_of tree)
sound ts s h = let a = answers ts s h in ((parse_schema ts).value, schema_sound ts a.0, a.1)

-- Every derivation is answered with its meaning.
pub complete : (ts : List Token) (tree : SchemaTree) → Derives ts tree → parse ts ≡ schema (schema_of tree)
complete ts tree d = ap parse (sym d.tokens) ∙ reports tree d.wf ∙ rw (no_condition_errors tree d.good)

-- There is one derivation at most.
pub unique : (s t : SchemaTree) → Wf s → Wf t → yield s ≡ yield t → s ≡ t
unique s t v w h = ap (λ (p : Reading SchemaTree). p.value) (sym (schema_complete s v) ∙ ap parse_schema h ∙ schema_complete t w)

pub accepts_exactly : (ts : List Token) → ((s : Schema) × (parse ts ≡ schema s)) ↔ ((tree : SchemaTree) × Derives ts tree)
accepts_exactly ts = (λ (s, h). let (tree, d, e) = sound ts s h in (tree, d), λ (tree, d). (schema_of tree, complete ts tree d))

-- Errors are answered exactly where there is none.
pub refuses_exactly : (ts : List Token) → ((es : List Error) × (parse ts ≡ errors es)) ↔ (¬ ((tree : SchemaTree) × Derives ts tree))
refuses_exactly ts = (λ (es, h) (tree, d). schema≢errors (sym (complete ts tree d) ∙ h), λ n. no_schema (parse ts) λ s h. n ((accepts_exactly ts).0 (s, h)))

pub schema_is_the_derivation's : (ts : List Token) (s : Schema) (tree : SchemaTree) → parse ts ≡ schema s → Derives ts tree → s ≡ schema_of tree
schema_is_the_derivation's ts s tree h d = same_schema (sym h ∙ complete ts tree d)

-- On tables that are not refused: a schema table that is answered is the encoding of a derivation's schema,
pub table_sound : (table : Bytes) (room : ℕ) (ts : List Token) (bs : Bytes) → decode table ≡ tokens ts → read_answer table room ≡ Answer.schema bs
    → (tree : SchemaTree) × Derives ts tree × (bs ≡ encode_schema (schema_of tree))
table_sound table room ts bs d h =
    let (s, p, e) = table_schema table room ts bs d h in
    let (tree, t, q) = sound ts s p in
    (tree, t, e ∙ ap encode_schema q)

-- every derivation is answered so, in a buffer that holds it,
pub table_complete : (table : Bytes) (room : ℕ) (ts : List Token) (tree : SchemaTree) → decode table ≡ tokens ts → Derives ts tree
    → length (encode_schema (schema_of tree)) ≤ room
    → read_answer table room ≡ Answer.schema (encode_schema (schema_of tree))
table_complete table room ts tree d t l =
    let p = ap answer_of (complete ts tree t) in
    table_answer table room ts d (rw p l) ∙ p

-- and in a buffer that holds the answer it is a schema table exactly where there is a derivation.
pub table_exactly : (table : Bytes) (room : ℕ) (ts : List Token) → decode table ≡ tokens ts → length (bytes_of (answer_of (parse ts))) ≤ room
    → ((bs : Bytes) × (read_answer table room ≡ Answer.schema bs)) ↔ ((tree : SchemaTree) × Derives ts tree)
table_exactly table room ts d l = (
  λ (bs, h). let (tree, t, e) = table_sound table room ts bs d h in (tree, t),
  λ (tree, t). (encode_schema (schema_of tree), table_answer table room ts d l ∙ ap answer_of (complete ts tree t)),
)
