-- What the promises of `reader::read`, `writer::write` and the functions on names come to. A statement takes a promise, which is the contract of the
-- function, and cites the file that proves it.
use Prim.Native.Nat.{ℕ, ◌≤◌, ◌<◌}
use mathlib.Core.Path.{◌≡◌, refl, ap, sym, ◌∙◌}
use mathlib.Core.Bool.{Bool}
use mathlib.Core.List.{List}
use mathlib.Core.Logic.{◌↔◌, ◌⊎◌}
use native.Mathlib.Omega.{arith}
use lib.ListN.{length, take}
use Rattle.std.specs.Prelude.{Result, Ok, Err}
use Rattle.std.specs.declared.cmp.Ordering.{Ordering}
use Rattle.wire.specs.Bytes.{Bytes}
use Rattle.wire.specs.Refusal.{number_of}
use Rattle.wire.specs.declared.Refused.{Refused}
use Rattle.wire.proofs.Numbers.{AllBytes}
use Rattle.token.specs.Token.{Token}
use Rattle.token.specs.Table.{refused, tokens, decode}
use Rattle.grammar.specs.Tree.{SchemaTree}
use Rattle.grammar.specs.Meaning.{schema_of}
use Rattle.grammar.specs.Derivation.{Derives}
use Rattle.grammar.specs.Reading.{parse}
use Rattle.grammar.specs.Answer.{answer_of, bytes_of, read_answer, buffer_after}
use Rattle.grammar.proofs.Outcomes.{table_answer, read_refused}
use Rattle.grammar.proofs.Demand3.{refuses_exactly, table_exactly}
use Rattle.reader.specs.Answers.{Answers}
use Rattle.reader.specs.declared.Answer.{Answer}
use Rattle.reader.specs.declared.Answer.TheVariants.{Schema, Errors}
use Rattle.writer.specs.Written.{Writes}
use Rattle.names.specs.Answer.{Answers as Names, Relatives, compared_of, sameness_of, survival_of}
use Rattle.names.specs.declared.Relative.{Relative}
use Rattle.demands.specs.Outcome.{SchemaRead, ErrorsRead, TextWritten, Refusal}
use Rattle.demands.proofs.Told as told'
use Rattle.demands.proofs.Texts as texts
use Rattle.demands.proofs.Refusals as refusals

-- ---- Demand 1. There is an answer to every table and every buffer.
pub answered : (table before : Bytes) → (after : Bytes) × (r : Result Answer Refused) × Answers table before after r
answered table before =
    let (r, e) = told'.some_answer table (length before) in
    (buffer_after before (read_answer table (length before)), r, record { answer = e; buffer = refl })

module _ {table before after : Bytes} where
  -- A refusal changes no lent byte,
  pub refusal_keeps : {e : Refused} → Answers table before after (Err e) → after ≡ before
  refusal_keeps p = told'.refused_same p

  -- and its number is one of R1 to R8:
  pub refusal_number : {e : Refused} → Answers table before after (Err e) → (1 ≤ number_of e.refusal) × (number_of e.refusal ≤ 8)
  refusal_number p = told'.read_number table (length before) (told'.refused_as p)

  -- R1 to R7, and the offset, where the table decodes to them;
  pub refused_first : {n offset : ℕ} {r : Result Answer Refused} → decode table ≡ refused n offset → Answers table before after r
      → (e : Refused) × (r ≡ Err e) × (number_of e.refusal ≡ n) × (e.offset ≡ offset)
  refused_first d p = told'.refuses p (read_refused table (length before) d)

  -- else R8, where the answer is longer than the buffer. No answer is longer than 131,072 bytes.
  pub refused_last : {e : Refused} (ts : List Token) → decode table ≡ tokens ts → Answers table before after (Err e)
      → (number_of e.refusal ≡ 8) × (e.offset ≡ 0) × (length before < length (bytes_of (answer_of (parse ts)))) × (length before < 131072)
  refused_last ts d p =
      let (a, b, c) = told'.read_refusal table (length before) ts d (told'.refused_as p) in
      (a, b, c, omega (arith, told'.answer_small table ts d))

-- The same of writing, by R1, R9 and R8, and of the functions on names, by R10 and R8.
pub write_refusal : {t out out' : Bytes} {e : Refused} → Writes t out out' (Err e)
    → Refusal ((number_of e.refusal ≡ 1) ⊎ ((number_of e.refusal ≡ 9) ⊎ (number_of e.refusal ≡ 8))) e.offset out out'
write_refusal = refusals.write_refusal

pub name_refusal : {good : Bool} {bs out out' : Bytes} {e : Refused} → Names good bs out out' (Err e)
    → Refusal ((number_of e.refusal ≡ 10) ⊎ (number_of e.refusal ≡ 8)) e.offset out out'
name_refusal = refusals.name_refusal

pub relative_refusal : {good : Bool} {bs out out' : Bytes} {up : ℕ} {e : Refused} → Relatives good bs up out out' (Err e)
    → Refusal ((number_of e.refusal ≡ 10) ⊎ (number_of e.refusal ≡ 8)) e.offset out out'
relative_refusal = refusals.relative_refusal

-- ---- Demand 2. What reading answers stands in the buffer, with its length, and the bytes after it are as they were.
module _ {table before after : Bytes} {n : ℕ} where
  pub schema_read : Answers table before after (Ok (Schema n)) → SchemaRead table before after n
  schema_read p = told'.schema_read p

  pub errors_read : Answers table before after (Ok (Errors n)) → ErrorsRead table before after n
  errors_read p = told'.errors_read p

-- ---- Demand 3. To a table that R1 to R7 don't stop, in a buffer that holds the answer, a schema is answered exactly where the tokens have a
-- derivation, and errors exactly where they have none. The schema is the derivation's, by demand 2.
module _ {table before after : Bytes} {r : Result Answer Refused} (ts : List Token) (d : decode table ≡ tokens ts)
    (l : length (bytes_of (answer_of (parse ts))) ≤ length before)
    (p : Answers table before after r) where
  pub schema_exactly : ((n : ℕ) × (r ≡ Ok (Schema n))) ↔ ((tree : SchemaTree) × Derives ts tree)
  schema_exactly = (
    λ (n, e). told'.read_tree ts d (told'.schema_read (rw e at p)),
    λ t. let (bs, h) = (table_exactly table (length before) ts d l).1 t in (length bs, told'.reads_schema p h),
  )

  pub errors_exactly : ((n : ℕ) × (r ≡ Ok (Errors n))) ↔ (¬ ((tree : SchemaTree) × Derives ts tree))
  errors_exactly = (
    λ (n, e). told'.read_none ts d (told'.errors_read (rw e at p)),
    λ t. let (es, h) = (refuses_exactly ts).1 t in (_, told'.reads_errors p (table_answer table (length before) ts d l ∙ ap answer_of h)),
  )

pub one_derivation : {ts : List Token} {tree other : SchemaTree} → Derives ts tree → Derives ts other → tree ≡ other
one_derivation = told'.one_derivation

-- ---- What reading wrote as a schema, writing accepts: it answers the text of the derivation's schema, or R8, never R1 or R9.
module _ {table before after out out' : Bytes} {n : ℕ} {r : Result ℕ Refused} (ts : List Token) (tree : SchemaTree)
    (a : AllBytes table) (d : decode table ≡ tokens ts) (t : Derives ts tree)
    (p : Answers table before after (Ok (Schema n))) (q : Writes (take n after) out out' r) where
  pub written : TextWritten (schema_of tree) out out' r
  written = texts.text_of_read ts tree a d t (told'.schema_read p) q

  pub written_or_long : {e : Refused} → r ≡ Err e → number_of e.refusal ≡ 8
  written_or_long e = texts.refused_long written e

-- ---- A second answer that a promise allows is the first, and leaves the same buffer.
pub read_once : {table before after after' : Bytes} {r r' : Result Answer Refused} → Answers table before after r → Answers table before after' r'
    → (r ≡ r') × (after ≡ after')
read_once p q = (told'.numbered_once _ _ (p.answer ∙ sym q.answer), p.buffer ∙ sym q.buffer)

pub write_once : {t out after after' : Bytes} {r r' : Result ℕ Refused} → Writes t out after r → Writes t out after' r' → (r ≡ r') × (after ≡ after')
write_once p q = (p.answer ∙ sym q.answer, p.buffer ∙ sym q.buffer)

-- snake_case, camel_case, pascal_case, join and text
pub name_once : {good : Bool} {bs out after after' : Bytes} {r r' : Result ℕ Refused} → Names good bs out after r → Names good bs out after' r'
    → (r ≡ r') × (after ≡ after')
name_once p q = (p.answer ∙ sym q.answer, p.buffer ∙ sym q.buffer)

pub relativize_once : {good : Bool} {bs out after after' : Bytes} {up : ℕ} {r r' : Result Relative Refused} → Relatives good bs up out after r
    → Relatives good bs up out after' r' → (r ≡ r') × (after ≡ after')
relativize_once p q = (p.answer ∙ sym q.answer, p.buffer ∙ sym q.buffer)

pub cmp_once : (a b : Bytes) {r r' : Result Ordering Refused} → r ≡ compared_of a b → r' ≡ compared_of a b → r ≡ r'
cmp_once a b p q = p ∙ sym q

pub eq_once : (a b : Bytes) {r r' : Result Bool Refused} → r ≡ sameness_of a b → r' ≡ sameness_of a b → r ≡ r'
eq_once a b p q = p ∙ sym q

pub survives_once : (name : Bytes) {r r' : Result Bool Refused} → r ≡ survival_of name → r' ≡ survival_of name → r ≡ r'
survives_once name p q = p ∙ sym q
