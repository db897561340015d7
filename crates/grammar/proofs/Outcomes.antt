-- What an outcome shows of the errors and the schema, and what an answer shows of the outcome.
use Prim.Native.Nat.{ℕ, ◌≤◌}
use mathlib.Core.Path.{◌≡◌, refl, sym, ◌∙◌}
use mathlib.Core.List.{List, [], ◌∷◌}
use mathlib.Core.Bool.{Bool, true, false}
use native.Mathlib.Omega.{arith}
use lib.Dec.{leb}
use lib.ListN.{length}
use borrow.Author.Tests.{le-leb}
use Rattle.wire.specs.Bytes.{Bytes}
use Rattle.wire.specs.Pick.{pick}
use Rattle.wire.specs.Put.{laid}
use Rattle.token.specs.Token.{Token}
use Rattle.token.specs.Table.{refused, tokens, decode}
use Rattle.schema.specs.Ast.{Schema}
use Rattle.schema.specs.Encode.{encode_schema}
use Rattle.grammar.specs.Tree.{SchemaTree}
use Rattle.grammar.specs.Meaning.{schema_of}
use Rattle.grammar.specs.Error.{Error, errors_bytes}
use Rattle.grammar.specs.Reading.{Reading, parse_schema, Outcome, schema, errors, outcome_of, parse}
use Rattle.grammar.specs.Answer.{Answer, answer_of, bytes_of, fitted, read_answer, buffer_after}

pub same_schema : {s t : Schema} → ◌≡◌ {A = Outcome} (schema s) (schema t) → s ≡ t
same_schema h = cc

pub schema≢errors : {s : Schema} {es : List Error} → ◌≡◌ {A = Outcome} (schema s) (errors es) → ⊥
schema≢errors h = let z : ◌≡◌ {A = ℕ} 0 1 = cc in omega arith

pub no_schema : (o : Outcome) → ((s : Schema) → o ≡ schema s → ⊥) → (es : List Error) × (o ≡ errors es)
no_schema (schema s) n = absurd (n s refl)
no_schema (errors es) n = (es, refl)

answered : (p : Reading SchemaTree) (es : List Error) (s : Schema) → p.errors ≡ es → outcome_of p ≡ schema s
    → (p.errors ≡ []) × (s ≡ schema_of p.value)
answered p [] s e h = (e, same_schema (sym h ∙ rw e))
answered p (x ∷ xs) s e h = let z : ◌≡◌ {A = ℕ} 0 1 = cc in absurd (omega arith)

-- a schema is answered where there are no errors
pub answers : (ts : List Token) (s : Schema) → parse ts ≡ schema s → ((parse_schema ts).errors ≡ []) × (s ≡ schema_of (parse_schema ts).value)
unfolding parse
answers ts s h = answered (parse_schema ts) (parse_schema ts).errors s refl h

-- by the errors
pub parse_schema_lem : (ts : List Token) → (parse_schema ts).errors ≡ [] → parse ts ≡ schema (schema_of (parse_schema ts).value)
unfolding parse
parse_schema_lem ts h = go (parse_schema ts) h
  where
    go : (p : Reading SchemaTree) → p.errors ≡ [] → outcome_of p ≡ schema (schema_of p.value)
    go p h = rw h

pub parse_errors : (ts : List Token) {e : Error} {es : List Error} → (parse_schema ts).errors ≡ e ∷ es → parse ts ≡ errors (e ∷ es)
unfolding parse
parse_errors ts {e} {es} h = go (parse_schema ts) h
  where
    go : (p : Reading SchemaTree) → p.errors ≡ e ∷ es → outcome_of p ≡ errors (e ∷ es)
    go p h = rw h

-- by what the table decodes to
pub read_refused : (table : Bytes) (room : ℕ) {number offset : ℕ} → decode table ≡ refused number offset → read_answer table room ≡ Answer.refusal number offset
unfolding read_answer
read_refused table room d = rw d

pub read_tokens : (table : Bytes) (room : ℕ) {ts : List Token} → decode table ≡ tokens ts → read_answer table room ≡ fitted room (answer_of (parse ts))
unfolding read_answer
read_tokens table room d = rw d

-- an answer that is a schema table fits, and is the schema's
schema_fitted : (room : ℕ) (o : Outcome) (bs : Bytes) → fitted room (answer_of o) ≡ Answer.schema bs
    → (s : Schema) × (o ≡ schema s) × (bs ≡ encode_schema s)
unfolding fitted pick
schema_fitted room (schema s) bs h = go (leb (length (encode_schema s)) room) refl
  where
    go : (b : Bool) → leb (length (encode_schema s)) room ≡ b → (t : Schema) × (◌≡◌ {A = Outcome} (schema s) (schema t)) × (bs ≡ encode_schema t)
    go true e = let k = rw e at h in (s, refl, cc)
    go false e = let k = rw e at h in let z : ◌≡◌ {A = ℕ} 0 1 = cc in absurd (omega arith)
schema_fitted room (errors es) bs h = go (leb (length (errors_bytes es)) room) refl
  where
    go : (b : Bool) → leb (length (errors_bytes es)) room ≡ b → (t : Schema) × (◌≡◌ {A = Outcome} (errors es) (schema t)) × (bs ≡ encode_schema t)
    go true e = let k = rw e at h in let z : ◌≡◌ {A = ℕ} 0 1 = cc in absurd (omega arith)
    go false e = let k = rw e at h in let z : ◌≡◌ {A = ℕ} 0 1 = cc in absurd (omega arith)

pub table_schema : (table : Bytes) (room : ℕ) (ts : List Token) (bs : Bytes) → decode table ≡ tokens ts → read_answer table room ≡ Answer.schema bs
    → (s : Schema) × (parse ts ≡ schema s) × (bs ≡ encode_schema s)
table_schema table room ts bs d h = schema_fitted room (parse ts) bs (sym (read_tokens table room d) ∙ h)

-- an outcome whose bytes fit is the answer
pub table_answer : (table : Bytes) (room : ℕ) (ts : List Token) → decode table ≡ tokens ts → length (bytes_of (answer_of (parse ts))) ≤ room
    → read_answer table room ≡ answer_of (parse ts)
unfolding fitted pick
table_answer table room ts d l = read_tokens table room d ∙ rw (le-leb (length (bytes_of (answer_of (parse ts)))) room l)

-- what is left in the buffer is what a writer of the answer lays there
pub buffer_laid : (buffer : Bytes) (o : Outcome) → buffer_after buffer (fitted (length buffer) (answer_of o)) ≡ laid buffer (bytes_of (answer_of o))
unfolding fitted laid pick
buffer_laid buffer o = go o (leb (length (bytes_of (answer_of o))) (length buffer)) refl
  where
    go : (o : Outcome) (b : Bool) → leb (length (bytes_of (answer_of o))) (length buffer) ≡ b
        → buffer_after buffer (fitted (length buffer) (answer_of o)) ≡ laid buffer (bytes_of (answer_of o))
    go (schema s) true e = rw e
    go (schema s) false e = rw e
    go (errors es) true e = rw e
    go (errors es) false e = rw e
