-- The reader's answers, from what the table decodes to, what its tokens parse to, and whether the answer fits.
use Prim.Native.Nat.{ℕ, ◌/◌, ◌≤◌, ◌<◌}
use mathlib.Core.Path.{◌≡◌, refl, ap, sym, ◌∙◌}
use mathlib.Core.Bool.{true, false}
use mathlib.Core.List.{List, [], ◌∷◌, ◌++◌}
use native.Mathlib.Nat.{zero-add}
use native.Mathlib.Omega.{arith}
use borrow.Author.Tests.{le-leb}
use lib.Dec.{leb}
use lib.ListN.{length, drop}
use Rattle.wire.specs.Bytes.{Bytes}
use Rattle.std.specs.Prelude.{Ok, Err}
use Rattle.wire.specs.Pick.{pick}
use Rattle.wire.specs.Refusal.{number_of, refused_by}
use Rattle.wire.specs.declared.Refused.{Refused}
use Rattle.wire.specs.declared.Refusal.TheVariants.{NoRoom}
use Rattle.token.specs.Token.{Token}
use Rattle.token.specs.Table.{refused, tokens, decode_from, decode}
use Rattle.schema.specs.Encode.{encode_schema}
use Rattle.grammar.specs.Error.{Error, errors_bytes}
use Rattle.grammar.specs.Meaning.{schema_of}
use Rattle.grammar.specs.Reading.{parse_schema, parse, Outcome}
use Rattle.grammar.specs.Answer.{read_answer, answer_of, bytes_of, fitted}
use Rattle.grammar.specs.Answer as reading
use Rattle.wire.specs.Put.{Wrote, over}
use Rattle.wire.proofs.Laws.{adv_is, over_fits}
use Rattle.token.specs.Places.{tokens_from}
use Rattle.token.specs.Checked.{numbered, checked}
use Rattle.token.specs.declared.Checked as token
use Rattle.token.proofs.Walk.{fine, refusal}
use Rattle.grammar.proofs.Count.{errors_length, errors_at_most_tokens}
use Rattle.grammar.proofs.Outcomes.{parse_schema_lem, parse_errors, read_refused, read_tokens}
use Rattle.places.specs.Imports.{Orders}
use Rattle.places.specs.declared.Ordered.{Ordered}
use Rattle.judge.specs.Judges.{Judgeable}
use Rattle.reader.specs.Answers.{Answers, Checked, Ready, Clean}
use Rattle.reader.specs.declared.Answer.TheVariants.{Schema, Errors}

pub turned_away : (t o : Bytes) {r : Refused} → decode t ≡ refused (number_of r.refusal) r.offset → Answers t o o (Err r)
turned_away t o d = let a = read_refused t (length o) d in record { answer = rw a; buffer = rw a }

-- where the table decodes to tokens that parse to an outcome
module _ (t o : Bytes) {ts : List Token} (d : decode t ≡ tokens ts) {out : Outcome} (p : parse ts ≡ out) where
  fitted_is : read_answer t (length o) ≡ fitted (length o) (answer_of out)
  fitted_is = read_tokens t (length o) d ∙ rw p

  pub too_long : leb (length (bytes_of (answer_of out))) (length o) ≡ false → Answers t o o (Err (refused_by NoRoom))
  unfolding fitted pick
  too_long e = let a : read_answer t (length o) ≡ reading.Answer.refusal 8 0 = fitted_is ∙ rw e in record { answer = rw a; buffer = rw a }

  fits : leb (length (bytes_of (answer_of out))) (length o) ≡ true → read_answer t (length o) ≡ answer_of out
  unfolding fitted pick
  fits e = fitted_is ∙ rw e

module _ (t o : Bytes) {ts : List Token} (d : decode t ≡ tokens ts) where
  pub schema_written : {o' : Bytes} {r : ℕ} → (parse_schema ts).errors ≡ [] → let bs = encode_schema (schema_of (parse_schema ts).value) in
      leb (length bs) (length o) ≡ true → (o' ≡ bs ++ drop (length bs) o) × (r ≡ length bs) → Answers t o o' (Ok (Schema r))
  schema_written z e (b, n) = let a = fits t o d (parse_schema_lem ts z) e in record { answer = rw (a, n); buffer = rw a b }

  pub errors_written : {o' : Bytes} {r : ℕ} {es : List Error} → parse ts ≡ Outcome.errors es →
      leb (length (errors_bytes es)) (length o) ≡ true → (o' ≡ errors_bytes es ++ drop (length (errors_bytes es)) o) × (r ≡ length (errors_bytes es))
      → Answers t o o' (Ok (Errors r))
  errors_written p e (b, n) = let a = fits t o d p e in record { answer = rw (a, n); buffer = rw a b }

-- no bytes are no tokens, and these an empty schema, whose table is empty
pub nothing_read : {t : Bytes} (o : Bytes) → length t ≡ 0 → Answers t o o (Ok (Schema 0))
unfolding encode_schema decode decode_from pick
nothing_read {t} o z = go t z
  where
    go : (t : Bytes) → length t ≡ 0 → Answers t o o (Ok (Schema 0))
    go [] n = schema_written [] o {ts = []} refl refl (le-leb 0 (length o) (omega arith)) (refl, refl)
    go (b ∷ bs) n = absurd (omega (arith, n))

-- a count of the errors is 0 exactly where there are none
errors_none : (es : List Error) {n : ℕ} → n ≡ length es → n ≡ 0 → es ≡ []
errors_none [] e z = refl
errors_none (x ∷ es) e z = absurd (omega (arith, e, z))

pub errors_some : (ts : List Token) {n : ℕ} → n ≡ length (parse_schema ts).errors → (n ≡ 0 → ⊥) → parse ts ≡ Outcome.errors (parse_schema ts).errors
errors_some ts e z = go (parse_schema ts).errors refl
  where
    go : (es : List Error) → (parse_schema ts).errors ≡ es → parse ts ≡ Outcome.errors (parse_schema ts).errors
    go [] q = absurd (z (e ∙ ap length q))
    go (x ∷ es) q = parse_errors ts q ∙ ap Outcome.errors (sym q)

-- where there are none, the buffer is as it was
pub untouched : (es : List Error) {o e : Bytes} {need n : ℕ} → Wrote o 0 (errors_bytes es) e need → n ≡ length es → n ≡ 0 → e ≡ o
unfolding errors_bytes over
untouched es w l z = rw (errors_none es l z) at w.bytes

-- each error has room where each token has room for one
pub errors_fit : (ts : List Token) (n : ℕ) (o : Bytes) → length ts ≤ n → n ≤ length o / 14 → length (errors_bytes (parse_schema ts).errors) ≤ length o
errors_fit ts n o h k = omega (arith, errors_length (parse_schema ts).errors, errors_at_most_tokens ts)

-- bytes that fit stand in front of what was there
pub landed : (o bs : Bytes) {o' : Bytes} {r : ℕ} → length o < 18446744073709551615 → length bs ≤ length o → Wrote o 0 bs o' r
    → (o' ≡ bs ++ drop (length bs) o) × (r ≡ length bs)
landed o bs k f w =
    let a = adv_is bs 0 (omega arith) in
    (w.bytes ∙ over_fits bs o 0 (omega arith) (omega arith) ∙ rw zero-add, w.place ∙ omega arith)

-- what collecting and emitting ask, of lists that are as long as those that were lent
module _ {t : Bytes} {end : ℕ} {imports : List ℕ} {order : Ordered} {items spare : List ℕ} (p : Ready t end imports order items spare) where
  pub judgeable : {items' spare' : List ℕ} → length items' ≡ length items → length spare' ≡ length spare
      → (Judgeable t end items' spare') × (Orders t imports order)
  judgeable x y = (
    record { room = record { wf = p.checked.wf; places = omega (arith, p.list); work = omega (arith, p.work) }; last = p.checked.last },
    p.orders,
  )

  pub clean : {n : ℕ} {items' spare' : List ℕ} → n ≡ length (parse_schema (tokens_from t 0)).errors → n ≡ 0 → length items' ≡ length items
      → length spare' ≡ length spare
      → Clean t imports order items' spare'
  clean e z x y = record {
    decodes = p.checked.decodes;
    wf = p.checked.wf;
    none = errors_none _ e z;
    orders = p.orders;
    list = omega (arith, p.list);
    work = omega (arith, p.work);
  }

-- what the check told
pub passed : {t : Bytes} {c : token.Checked} → numbered (Ok c) ≡ checked t → Checked t c.end × (length (tokens_from t 0) ≡ c.count)
passed {t} {c} p =
    let j = fine t c.count c.end (sym p) in
    (record { decodes = j.decodes; last = j.end; wf = j.wf }, sym j.count)

pub stopped : {t : Bytes} (o : Bytes) {r : Refused} → numbered (Err r) ≡ checked t → Answers t o o (Err r)
stopped {t} o {r} p = turned_away t o {r = r} (refusal t (number_of r.refusal) r.offset (sym p))
