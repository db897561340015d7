-- What the writer's and the reader's answers say of the printed text.
use Prim.Native.Nat.{ℕ, ◌/◌, ◌≤◌}
use mathlib.Core.Path.{◌≡◌, refl, sym, ap, ◌∙◌}
use mathlib.Core.Bool.{Bool, true, false}
use mathlib.Core.Option.{Option, none, some}
use mathlib.Core.List.{◌++◌, append_assoc}
use native.Mathlib.Nat.{zero-add}
use native.Mathlib.Omega.{arith}
use lib.Dec.{leb, ltb}
use lib.ListN.{length, take, drop, length-take, length-append, take-append-drop}
use lib.Seq.{drop-append-le, take_at}
use borrow.Author.Tests.{leb-true}
use Rattle.std.specs.Prelude.{Result, Ok, Err}
use Rattle.wire.specs.Bytes.{Bytes}
use Rattle.wire.specs.Pick.{pick}
use Rattle.wire.specs.Put.{Wrote, over, laid}
use Rattle.wire.specs.Refusal.{number_of, refused_by}
use Rattle.wire.specs.declared.Refused.{Refused}
use Rattle.wire.specs.declared.Refusal.TheVariants.{TableTooLong, NoRoom, NotASchema}
use Rattle.wire.proofs.Laws.{over_fits, adv_is}
use Rattle.schema.specs.Ast.{Schema}
use Rattle.schema.specs.Decode.{decode_schema}
use Rattle.text.specs.Text.{text_of}
use Rattle.grammar.specs.Answer.{read_answer, buffer_after}
use Rattle.grammar.specs.Answer as reading
use Rattle.reader.specs.Answers.{Answers, Told as Answered, told, numbered}
use Rattle.reader.specs.declared.Answer.{Answer}
use Rattle.reader.specs.declared.Answer.TheVariants as read
use Rattle.writer.specs.Written.{answer_to, left_by, Writes}
use Rattle.printed.specs.Printed.{refusal_line, error_lines, text_printed, schema_printed, answer_printed, printed, Prints}
use Rattle.printed.proofs.Short.{printed_short}

-- the writer was lent o, left o' and answered r; then these bytes are printed
pub record Told (o o' : Bytes) (r : Result ℕ Refused) (bs : Bytes) : Type 0 where
  pub line : {e : Refused} → r ≡ Err e → (bs ≡ refusal_line (number_of e.refusal) e.offset) × (o' ≡ o)
  pub text : {n : ℕ} → r ≡ Ok n → (n ≡ length bs) × (length bs ≤ 65536) × (o' ≡ bs ++ drop (length bs) o)

told_line : {o o' : Bytes} {r : Result ℕ Refused} (x : Refused) → r ≡ Err x → o' ≡ o → Told o o' r (refusal_line (number_of x.refusal) x.offset)
told_line x p h =
    record { line = λ {e} f. let z : x ≡ e = cc in (rw z, h); text = λ f. let z : ◌≡◌ {A = ℕ} 0 1 = cc in absurd (omega arith) }

told_text : {o o' : Bytes} {r : Result ℕ Refused} (bs : Bytes) → r ≡ Ok (length bs) → length bs ≤ 65536 → o' ≡ bs ++ drop (length bs) o → Told o o' r bs
told_text bs e h b = record { line = λ f. let z : ◌≡◌ {A = ℕ} 0 1 = cc in absurd (omega arith); text = λ f. (cc, h, b) }

told_of : {o o' : Bytes} {r : Result ℕ Refused} (b : Bool) (d : Option Schema) → length o ≡ 65536 → r ≡ pick b (Err (refused_by TableTooLong)) (answer_to (length o) d)
    → o' ≡ pick b o (left_by o d) → Told o o' r (pick b (refusal_line 1 0) (text_printed d))
unfolding pick laid
told_of true d l p q = told_line (refused_by TableTooLong) p q
told_of false none l p q = told_line (refused_by NotASchema) p q
told_of {o} {o'} {r} false (some s) l p q = go (leb (length (text_of s)) 65536) refl
  where
    go : (k : Bool) → leb (length (text_of s)) 65536 ≡ k → Told o o' r (pick (leb (length (text_of s)) 65536) (text_of s) (refusal_line 8 0))
    go true e = rw e (told_text (text_of s) (rw (l, e) at p) (leb-true _ _ e) (rw (l, e) at q))
    go false e = rw e (told_line (refused_by NoRoom) (rw (l, e) at p) (rw (l, e) at q))

pub writer_told : {t o o' : Bytes} {r : Result ℕ Refused} → length o ≡ 65536 → Writes t o o' r → Told o o' r (schema_printed t)
unfolding schema_printed
writer_told {t} l w = told_of (ltb 131072 (length t)) (decode_schema t) l w.answer w.buffer

-- the front of a longer buffer was lent, and came back with these bytes
front_text : (out : Bytes) {o' bs : Bytes} {n : ℕ} → 65536 ≤ length out → length out ≤ 18446744073709551615 → n ≡ length bs → length bs ≤ 65536
    → o' ≡ bs ++ drop (length bs) (take 65536 out) → Wrote out 0 bs (o' ++ drop 65536 out) n
front_text out {o'} {bs} l k e h p =
    let front : length bs ≤ length (take 65536 out) = omega (arith, length-take 65536 out) in
    let rest : drop (length bs) (take 65536 out) ++ drop 65536 out ≡ drop (length bs) out =
    sym (drop-append-le (length bs) (take 65536 out) (drop 65536 out) front) ∙ ap (drop (length bs)) (take-append-drop 65536 out) in
    let laid : o' ++ drop 65536 out ≡ bs ++ drop (length bs) out = rw (p, append_assoc, rest) in
    let all : over out 0 bs ≡ bs ++ drop (length bs) out = over_fits bs out 0 (omega arith) k ∙ rw zero-add in
    record { bytes = laid ∙ sym all; place = omega (arith, adv_is bs 0 (omega arith)) }

module _ {t : Bytes} (out : Bytes) {o' : Bytes} {r : Result ℕ Refused} (l : 65536 ≤ length out) (w : Writes t (take 65536 out) o' r) where
  lent : length (take 65536 out) ≡ 65536
  lent = omega (arith, length-take 65536 out)

  pub refused_line : {e : Refused} {out' : Bytes} {to : ℕ} → r ≡ Err e
      → Wrote (o' ++ drop 65536 out) 0 (refusal_line (number_of e.refusal) e.offset) out' to
      → Wrote out 0 (schema_printed t) out' to
  refused_line e p =
      let q = (writer_told lent w).line e in
      let same : o' ++ drop 65536 out ≡ out = rw q.1 (take-append-drop 65536 out) in
      rw q.0 (rw same at p)

  pub written_text : {n : ℕ} → length out ≤ 18446744073709551615 → r ≡ Ok n → Wrote out 0 (schema_printed t) (o' ++ drop 65536 out) n
  written_text k e = let q = (writer_told lent w).text e in front_text out l k q.0 q.1 q.2

-- the reader's answers
line_of : (a : reading.Answer) {number offset : ℕ} → told a ≡ Answered.refused number offset → answer_printed a ≡ refusal_line number offset
line_of (reading.Answer.refusal m p) e = cc
line_of (reading.Answer.schema bs) e = let z : ◌≡◌ {A = ℕ} 0 1 = cc in absurd (omega arith)
line_of (reading.Answer.errors bs) e = let z : ◌≡◌ {A = ℕ} 0 1 = cc in absurd (omega arith)

lines_of : (a : reading.Answer) (before : Bytes) {n : ℕ} → told a ≡ Answered.errors n → let list = take n (buffer_after before a) in
    (n ≤ length (buffer_after before a)) × (answer_printed a ≡ error_lines (length list / 14) list 0)
lines_of (reading.Answer.refusal m p) before e = let z : ◌≡◌ {A = ℕ} 0 1 = cc in absurd (omega arith)
lines_of (reading.Answer.schema bs) before e = let z : ◌≡◌ {A = ℕ} 0 1 = cc in absurd (omega arith)
lines_of (reading.Answer.errors bs) before {n} e =
    let f : length bs ≡ n = cc in
    (omega (arith, length-append bs (drop (length bs) before)), rw (take_at bs (drop (length bs) before) n f))

text_of_lem : (a : reading.Answer) (before : Bytes) {n : ℕ} → told a ≡ Answered.schema n →
    (n ≤ length (buffer_after before a)) × (answer_printed a ≡ schema_printed (take n (buffer_after before a)))
text_of_lem (reading.Answer.refusal m p) before e = let z : ◌≡◌ {A = ℕ} 0 1 = cc in absurd (omega arith)
text_of_lem (reading.Answer.errors bs) before e = let z : ◌≡◌ {A = ℕ} 0 1 = cc in absurd (omega arith)
text_of_lem (reading.Answer.schema bs) before {n} e =
    let f : length bs ≡ n = cc in
    (omega (arith, length-append bs (drop (length bs) before)), rw (take_at bs (drop (length bs) before) n f))

-- a buffer that holds anything printed
abbrev pub Roomy : Bytes → Type 0
Roomy text = (147456 ≤ length text) × (length text ≤ 18446744073709551615)

-- in which what was written stands whole
prints : {t schema₀ schema₁ text₀ text₁ : Bytes} {r : ℕ} → schema₁ ≡ buffer_after schema₀ (read_answer t 65536) → Roomy text₀
    → Wrote text₀ 0 (printed t) text₁ r → Prints t schema₀ schema₁ text₀ text₁ r
prints {t} {text₀ = text₀} p h w =
    let s = printed_short t in
    record {
      schema = p;
      size = omega (arith, w.place, adv_is (printed t) 0 (omega arith));
      text = w.bytes ∙ over_fits (printed t) text₀ 0 (omega (arith, h.0)) h.1 ∙ rw zero-add;
    }

module _ {t schema₀ schema₁ : Bytes} {r : Result Answer Refused} (l : length schema₀ ≡ 65536) (w : Answers t schema₀ schema₁ r) where
  left : schema₁ ≡ buffer_after schema₀ (read_answer t 65536)
  left = rw l at w.buffer

  answer : told (read_answer t 65536) ≡ numbered r
  answer = sym (rw l at w.answer)

  pub print_line : {e : Refused} {text₀ text₁ : Bytes} {to : ℕ} → Roomy text₀ → r ≡ Err e
      → Wrote text₀ 0 (refusal_line (number_of e.refusal) e.offset) text₁ to → Prints t schema₀ schema₁ text₀ text₁ to
  unfolding printed
  print_line m e p = prints left m (rw (line_of (read_answer t 65536) (answer ∙ ap numbered e)) p)

  pub lines_in : {n : ℕ} → r ≡ Ok (read.Errors n) → n ≤ length schema₁
  lines_in e = rw left (lines_of (read_answer t 65536) schema₀ (answer ∙ ap numbered e)).0

  pub print_lines : {n : ℕ} {text₀ text₁ : Bytes} {to : ℕ} → Roomy text₀ → r ≡ Ok (read.Errors n)
      → Wrote text₀ 0 (error_lines (length (take n schema₁) / 14) (take n schema₁) 0) text₁ to → Prints t schema₀ schema₁ text₀ text₁ to
  unfolding printed
  print_lines m e p = prints left m (rw (lines_of (read_answer t 65536) schema₀ (answer ∙ ap numbered e)).1 (rw left at p))

  pub text_in : {n : ℕ} → r ≡ Ok (read.Schema n) → n ≤ length schema₁
  text_in e = rw left (text_of_lem (read_answer t 65536) schema₀ (answer ∙ ap numbered e)).0

  pub print_text : {n : ℕ} {text₀ text₁ : Bytes} {to : ℕ} → Roomy text₀ → r ≡ Ok (read.Schema n)
      → Wrote text₀ 0 (schema_printed (take n schema₁)) text₁ to → Prints t schema₀ schema₁ text₀ text₁ to
  unfolding printed
  print_text m e p = prints left m (rw (text_of_lem (read_answer t 65536) schema₀ (answer ∙ ap numbered e)).1 (rw left at p))
