-- What the reader's answer tells of the answer that the definition gives, and of the buffer.
use Prim.Native.Nat.{ℕ, ◌≤◌, ◌<◌}
use mathlib.Core.Path.{◌≡◌, refl, ap, sym, ◌∙◌}
use mathlib.Core.Bool.{Bool, true, false}
use mathlib.Core.List.{List, [], ◌∷◌, ◌++◌}
use native.Mathlib.Omega.{arith}
use lib.Dec.{leb}
use lib.ListN.{length, drop}
use lib.Seq.{take_at, drop_at}
use borrow.Author.Tests.{leb-false}
use Rattle.std.specs.Prelude.{Result, Ok, Err}
use Rattle.wire.specs.Bytes.{Bytes}
use Rattle.wire.specs.Pick.{pick}
use Rattle.wire.specs.Refusal.{number_of}
use Rattle.wire.specs.declared.Refusal.{Refusal}
use Rattle.wire.specs.declared.Refused.{Refused}
use Rattle.wire.proofs.Refusals as wire
use Rattle.token.specs.Token.{Token}
use Rattle.token.specs.Table.{Decoded, refused, tokens, decode}
use Rattle.schema.specs.Encode.{encode_schema}
use Rattle.grammar.specs.Tree.{SchemaTree}
use Rattle.grammar.specs.Meaning.{schema_of}
use Rattle.grammar.specs.Error.{Error, errors_bytes}
use Rattle.grammar.specs.Derivation.{Derives}
use Rattle.grammar.specs.Reading.{Outcome, parse, parse_schema}
use Rattle.grammar.specs.Answer.{answer_of, bytes_of, fitted, read_answer}
use Rattle.grammar.specs.Answer as reading
use Rattle.token.proofs.Walk.{fit, fit_length, decode_small}
use Rattle.grammar.proofs.Twice.{schema_small}
use Rattle.grammar.proofs.Count.{errors_length, errors_short}
use Rattle.grammar.proofs.Outcomes.{parse_schema_lem, parse_errors, read_refused, read_tokens}
use Rattle.grammar.proofs.Demand3.{unique, refuses_exactly, table_sound}
use Rattle.reader.specs.Answers.{Told, told, numbered, Answers}
use Rattle.reader.specs.declared.Answer.{Answer}
use Rattle.reader.specs.declared.Answer.TheVariants.{Schema, Errors}
use Rattle.demands.specs.Outcome.{Front, SchemaRead, ErrorsRead}
use Rattle.demands.proofs.Numbers.{refused_number, refusal_of}

-- what was told of an answer is which of the three it is
told_schema : (a : reading.Answer) {n : ℕ} → told a ≡ Told.schema n → (bs : Bytes) × (a ≡ reading.Answer.schema bs) × (n ≡ length bs)
told_schema (reading.Answer.refusal number offset) h = absurd cc
told_schema (reading.Answer.schema bs) h = (bs, refl, cc)
told_schema (reading.Answer.errors bs) h = absurd cc

told_errors : (a : reading.Answer) {n : ℕ} → told a ≡ Told.errors n → (bs : Bytes) × (a ≡ reading.Answer.errors bs) × (n ≡ length bs)
told_errors (reading.Answer.refusal number offset) h = absurd cc
told_errors (reading.Answer.schema bs) h = absurd cc
told_errors (reading.Answer.errors bs) h = (bs, refl, cc)

told_refusal : (a : reading.Answer) {n offset : ℕ} → told a ≡ Told.refused n offset → a ≡ reading.Answer.refusal n offset
told_refusal (reading.Answer.refusal number at) {n} {offset} h = let p : number ≡ n = cc in let q : at ≡ offset = cc in rw (p, q)
told_refusal (reading.Answer.schema bs) h = absurd cc
told_refusal (reading.Answer.errors bs) h = absurd cc

-- one answer of the code has one number, offset and length
same_refused : {n m a b : ℕ} → Told.refused n a ≡ Told.refused m b → (n ≡ m) × (a ≡ b)
same_refused h = (cc, cc)

abbrev refused_of : Refusal → ℕ → Result Answer Refused
refused_of refusal offset = Err (record { refusal = refusal; offset = offset })

pub numbered_once : (a b : Result Answer Refused) → numbered a ≡ numbered b → a ≡ b
numbered_once (Ok (Schema n)) (Ok (Schema m)) h = let e : n ≡ m = cc in rw e
numbered_once (Ok (Errors n)) (Ok (Errors m)) h = let e : n ≡ m = cc in rw e
numbered_once (Ok (Schema n)) (Ok (Errors m)) h = cc
numbered_once (Ok (Errors n)) (Ok (Schema m)) h = cc
numbered_once (Ok (Schema n)) (Err b) h = cc
numbered_once (Ok (Errors n)) (Err b) h = cc
numbered_once (Err a) (Ok (Schema m)) h = cc
numbered_once (Err a) (Ok (Errors m)) h = cc
numbered_once (Err a) (Err b) h =
    let (n, o) = same_refused h in
    let r : a.refusal ≡ b.refusal = wire.same_refusal n in
    ap (λ (x : Refusal). refused_of x a.offset) r ∙ ap (refused_of b.refusal) o

refused_told : (r : Result Answer Refused) {n offset : ℕ} → numbered r ≡ Told.refused n offset
    → (e : Refused) × (r ≡ Err e) × (number_of e.refusal ≡ n) × (e.offset ≡ offset)
refused_told (Ok (Schema m)) h = absurd cc
refused_told (Ok (Errors m)) h = absurd cc
refused_told (Err e) h = let (n, o) = same_refused h in (e, refl, n, o)

-- what the definition answers, the code answers
module _ {table before after : Bytes} {r : Result Answer Refused} (p : Answers table before after r) where
  pub refuses : {n offset : ℕ} → read_answer table (length before) ≡ reading.Answer.refusal n offset
      → (e : Refused) × (r ≡ Err e) × (number_of e.refusal ≡ n) × (e.offset ≡ offset)
  refuses h = refused_told r (p.answer ∙ ap told h)

  pub reads_schema : {bs : Bytes} → read_answer table (length before) ≡ reading.Answer.schema bs → r ≡ Ok (Schema (length bs))
  reads_schema h = numbered_once r (Ok (Schema _)) (p.answer ∙ ap told h)

  pub reads_errors : {bs : Bytes} → read_answer table (length before) ≡ reading.Answer.errors bs → r ≡ Ok (Errors (length bs))
  reads_errors h = numbered_once r (Ok (Errors _)) (p.answer ∙ ap told h)

-- an answer that is no refusal is one to tokens
some_tokens : (table : Bytes) (room : ℕ) → ((number offset : ℕ) → read_answer table room ≡ reading.Answer.refusal number offset → ⊥)
    → (ts : List Token) × (decode table ≡ tokens ts)
some_tokens table room n = go (decode table) refl
  where
    go : (d : Decoded) → decode table ≡ d → (ts : List Token) × (decode table ≡ tokens ts)
    go (refused number offset) e = absurd (n number offset (read_refused table room e))
    go (tokens ts) e = (ts, e)

schema≢refusal : {bs : Bytes} {n o : ℕ} → ◌≡◌ {A = reading.Answer} (reading.Answer.schema bs) (reading.Answer.refusal n o) → ⊥
schema≢refusal h = cc

errors≢refusal : {bs : Bytes} {n o : ℕ} → ◌≡◌ {A = reading.Answer} (reading.Answer.errors bs) (reading.Answer.refusal n o) → ⊥
errors≢refusal h = cc

-- what a success leaves in the buffer
front : {bs before after : Bytes} {n : ℕ} → n ≡ length bs → after ≡ bs ++ drop (length bs) before → Front bs before after n
front {bs} {before} e b =
    record {
      long = e;
      bytes = rw (b, e) (take_at bs (drop (length bs) before) (length bs) refl);
      rest = rw (b, e) (drop_at bs (drop (length bs) before) (length bs) refl);
    }

-- an answer that is an error list fits, and is the errors'
errors_fitted : (room : ℕ) (o : Outcome) (bs : Bytes) → fitted room (answer_of o) ≡ reading.Answer.errors bs
    → (es : List Error) × (o ≡ Outcome.errors es) × (bs ≡ errors_bytes es)
unfolding fitted pick
errors_fitted room (Outcome.errors es) bs h = go (leb (length (errors_bytes es)) room) refl
  where
    go : (b : Bool) → leb (length (errors_bytes es)) room ≡ b
        → (fs : List Error) × (◌≡◌ {A = Outcome} (Outcome.errors es) (Outcome.errors fs)) × (bs ≡ errors_bytes fs)
    go true e = let k = rw e at h in (es, refl, cc)
    go false e = let k = rw e at h in absurd cc
errors_fitted room (Outcome.schema s) bs h = go (leb (length (encode_schema s)) room) refl
  where
    go : (b : Bool) → leb (length (encode_schema s)) room ≡ b
        → (fs : List Error) × (◌≡◌ {A = Outcome} (Outcome.schema s) (Outcome.errors fs)) × (bs ≡ errors_bytes fs)
    go true e = let k = rw e at h in absurd cc
    go false e = let k = rw e at h in absurd cc

module _ {table before after : Bytes} where
  pub schema_read : {n : ℕ} → Answers table before after (Ok (Schema n)) → SchemaRead table before after n
  schema_read p =
      let room = length before in
      let (bs, e, l) = told_schema (read_answer table room) (sym p.answer) in
      let (ts, d) = some_tokens table room (λ k o h. schema≢refusal (sym e ∙ h)) in
      let (tree, t, q) = table_sound table room ts bs d e in
      record { list = ts; decodes = d; tree = tree; derives = t; wrote = rw (← q) (front l (rw e at p.buffer)) }

  pub errors_read : {n : ℕ} → Answers table before after (Ok (Errors n)) → ErrorsRead table before after n
  errors_read p =
      let room = length before in
      let (bs, e, l) = told_errors (read_answer table room) (sym p.answer) in
      let (ts, d) = some_tokens table room (λ k o h. errors≢refusal (sym e ∙ h)) in
      let (es, q, b) = errors_fitted room (parse ts) bs (sym (read_tokens table room d) ∙ e) in
      record {
        list = ts;
        decodes = d;
        none = (refuses_exactly ts).0 (es, q);
        found = es;
        parses = q;
        count = l ∙ ap length b ∙ errors_length es;
        wrote = rw (← b) (front l (rw e at p.buffer));
      }

  pub refused_as : {e : Refused} → Answers table before after (Err e)
      → read_answer table (length before) ≡ reading.Answer.refusal (number_of e.refusal) e.offset
  refused_as p = told_refusal (read_answer table (length before)) (sym p.answer)

  pub refused_same : {e : Refused} → Answers table before after (Err e) → after ≡ before
  refused_same p = rw (refused_as p) at p.buffer

same_refusal : {a b c d : ℕ} → ◌≡◌ {A = reading.Answer} (reading.Answer.refusal a b) (reading.Answer.refusal c d) → (a ≡ c) × (b ≡ d)
same_refusal h = (cc, cc)

-- the answer to tokens is R8 or none of the refusals
fitted_refusal : (room : ℕ) (o : Outcome) {n offset : ℕ} → fitted room (answer_of o) ≡ reading.Answer.refusal n offset
    → (n ≡ 8) × (offset ≡ 0) × (room < length (bytes_of (answer_of o)))
unfolding fitted pick
fitted_refusal room o {n} {offset} h = go (leb (length (bytes_of (answer_of o))) room) refl
  where
    none : (o : Outcome) → answer_of o ≡ reading.Answer.refusal n offset → ⊥
    none (Outcome.schema s) h = schema≢refusal h
    none (Outcome.errors es) h = errors≢refusal h

    go : (b : Bool) → leb (length (bytes_of (answer_of o))) room ≡ b → (n ≡ 8) × (offset ≡ 0) × (room < length (bytes_of (answer_of o)))
    go true e = absurd (none o (rw e at h))
    go false e = let k = rw e at h in (cc, cc, omega (arith, leb-false (length (bytes_of (answer_of o))) room e))

pub read_refusal : (table : Bytes) (room : ℕ) {n offset : ℕ} (ts : List Token) → decode table ≡ tokens ts
    → read_answer table room ≡ reading.Answer.refusal n offset
    → (n ≡ 8) × (offset ≡ 0) × (room < length (bytes_of (answer_of (parse ts))))
read_refusal table room ts d h = fitted_refusal room (parse ts) (sym (read_tokens table room d) ∙ h)

pub read_number : (table : Bytes) (room : ℕ) {n offset : ℕ} → read_answer table room ≡ reading.Answer.refusal n offset → (1 ≤ n) × (n ≤ 8)
read_number table room {n} h = go (decode table) refl
  where
    go : (d : Decoded) → decode table ≡ d → (1 ≤ n) × (n ≤ 8)
    go (refused k o) e =
        let q = refused_number table e in
        let z = same_refusal (sym (read_refused table room e) ∙ h) in
        (omega (arith, z.0), omega (arith, z.0))
    go (tokens ts) e = let q = (read_refusal table room ts e h).0 in (omega arith, omega arith)

-- so the code can tell every answer
pub some_answer : (table : Bytes) (room : ℕ) → (r : Result Answer Refused) × (numbered r ≡ told (read_answer table room))
some_answer table room = go (read_answer table room) refl
  where
    go : (a : reading.Answer) → read_answer table room ≡ a → (r : Result Answer Refused) × (numbered r ≡ told (read_answer table room))
    go (reading.Answer.schema bs) e = (Ok (Schema (length bs)), rw e)
    go (reading.Answer.errors bs) e = (Ok (Errors (length bs)), rw e)
    go (reading.Answer.refusal n offset) e =
        let (l, m) = read_number table room e in
        let (r, q) = refusal_of n l m in
        (Err (record { refusal = r; offset = offset }), rw (e, q))

-- Two derivations of a table's tokens are one.
same_tokens : {ts us : List Token} → ◌≡◌ {A = Decoded} (tokens ts) (tokens us) → ts ≡ us
same_tokens h = cc

pub one_derivation : {ts : List Token} {tree other : SchemaTree} → Derives ts tree → Derives ts other → tree ≡ other
one_derivation {ts} {tree} {other} d e = unique tree other d.wf e.wf (d.tokens ∙ sym e.tokens)

module _ {table before after : Bytes} {n : ℕ} (ts : List Token) (d : decode table ≡ tokens ts) where
  pub read_derivation : {tree : SchemaTree} → (r : SchemaRead table before after n) → Derives ts tree → r.tree ≡ tree
  read_derivation r t = let e : r.list ≡ ts = same_tokens (sym r.decodes ∙ d) in one_derivation (rw e at r.derives) t

  pub read_tree : SchemaRead table before after n → (tree : SchemaTree) × Derives ts tree
  read_tree r = let e : r.list ≡ ts = same_tokens (sym r.decodes ∙ d) in (r.tree, rw e at r.derives)

  pub read_none : ErrorsRead table before after n → ¬ ((tree : SchemaTree) × Derives ts tree)
  read_none r = let e : r.list ≡ ts = same_tokens (sym r.decodes ∙ d) in rw e at r.none

-- 131,072 bytes hold the answer to any table
pub answer_small : (table : Bytes) (ts : List Token) → decode table ≡ tokens ts → length (bytes_of (answer_of (parse ts))) ≤ 131072
answer_small table ts d = go (parse_schema ts).errors refl
  where
    go : (es : List Error) → (parse_schema ts).errors ≡ es → length (bytes_of (answer_of (parse ts))) ≤ 131072
    go [] e =
        let p = parse_schema_lem ts e in
        rw p (schema_small table ts (schema_of (parse_schema ts).value) d p)
    go (x ∷ xs) e =
        let p = parse_errors ts e in
        let f = errors_short ts (fit_length (fit 4096 0 0 0 table ts (decode_small table ts d).1)) in
        rw p (omega (arith, rw e at f))
