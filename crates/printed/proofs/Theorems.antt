-- What is printed, by what the table decodes to and what its tokens parse to.
use Prim.Native.Nat.{ℕ, ◌+◌, ◌/◌, ◌≤◌, ◌<◌}
use mathlib.Core.Path.{◌≡◌, refl, sym, ap, ◌∙◌}
use mathlib.Core.Option.{some}
use mathlib.Core.List.{List, [], ◌∷◌, ◌++◌, append_assoc}
use native.Mathlib.Omega.{arith}
use lib.ListN.{length, length-append}
use lib.Seq.{drop_at}
use borrow.Author.Tests.{le-leb, le-ltb, lt-leb}
use Rattle.wire.specs.Bytes.{Bytes}
use Rattle.wire.specs.Le.{le_bytes, le_at, u16_at, u32_at}
use Rattle.wire.specs.Pick.{pick}
use Rattle.wire.specs.Record.{head_bytes, record_bytes}
use Rattle.wire.proofs.Numbers.{AllBytes, le_bytes-length, le_at-le_bytes}
use Rattle.token.specs.Token.{Token, token}
use Rattle.token.specs.Table.{token_of, refused, tokens, decode}
use Rattle.token.proofs.Walk.{field, decode_judged, wf_few}
use Rattle.token.proofs.Encode as token
use Rattle.schema.specs.Ast.{Schema}
use Rattle.schema.specs.Encode.{encode_schema}
use Rattle.schema.specs.Decode.{decode_schema}
use Rattle.text.specs.Text.{text_of}
use Rattle.grammar.specs.Tree.{All}
use Rattle.grammar.specs.Error.{Error, Narrow, error_bytes, errors_bytes}
use Rattle.grammar.specs.Reading.{parse, parse_schema, Outcome}
use Rattle.grammar.proofs.Count.{errors_length, errors_short}
use Rattle.grammar.specs.Answer.{fitted}
use Rattle.grammar.proofs.Within.{schema_back}
use Rattle.grammar.proofs.Narrow.{errors_narrow}
use Rattle.grammar.proofs.Outcomes.{schema≢errors, parse_schema_lem, parse_errors, read_refused, table_answer, read_tokens}
use Rattle.printed.specs.Printed.{refusal_line, error_lines, schema_printed, printed}
use Rattle.printed.specs.Errors.{errors_text}

-- the record of an error, as a token's
abbrev as_token : Error → Token
as_token e = token e.number e.range.start e.range.end (le_bytes 2 e.found)

module _ (e : Error) (rest : Bytes) (w : Narrow e) where
  same_token : token_of (error_bytes e ++ rest) ≡ as_token e
  unfolding error_bytes
  same_token = token.first_token (as_token e) rest (record { kind = w.number; start = w.start; end = w.end; size = rw le_bytes-length (omega arith) })

  number_is : u16_at (error_bytes e ++ rest) 2 ≡ e.number
  unfolding token_of
  number_is = ap (λ (t : Token). t.kind) same_token

  start_is : u32_at (error_bytes e ++ rest) 4 ≡ e.range.start
  unfolding token_of
  start_is = ap (λ (t : Token). t.start) same_token

  end_is : u32_at (error_bytes e ++ rest) 8 ≡ e.range.end
  unfolding token_of
  end_is = ap (λ (t : Token). t.end) same_token

  found_is : u16_at (error_bytes e ++ rest) 12 ≡ e.found
  unfolding error_bytes record_bytes head_bytes
  found_is =
      let a = le_bytes 2 (12 + length (le_bytes 2 e.found)) ++ le_bytes 2 e.number ++ le_bytes 4 e.range.start ++ le_bytes 4 e.range.end in
      simp append_assoc (simp append_assoc at (le_at-le_bytes 2 e.found a rest 12 (simp (length-append, le_bytes-length)) w.found))

error_length : (e : Error) → length (error_bytes e) ≡ 14
unfolding errors_bytes
error_length e = omega (arith, errors_length (e ∷ []), length-append (error_bytes e) [])

-- a number in a record that stands after other bytes
after : (k j : ℕ) (a x : Bytes) (at : ℕ) → length a ≡ at → le_at k (a ++ x) (at + j) ≡ le_at k x j
after k j a x at h = sym (field k (a ++ x) at j) ∙ rw (drop_at a x at h)

lines_are : (es : List Error) (a : Bytes) (at : ℕ) → length a ≡ at → All Narrow es → error_lines (length es) (a ++ errors_bytes es) at ≡ errors_text es
unfolding error_lines errors_bytes
lines_are [] a at h w = refl
lines_are (e ∷ es) a at h (w, ws) =
    let x = error_bytes e ++ errors_bytes es in
    let rest = errors_bytes es in
    let next : error_lines (length es) (a ++ x) (at + 14) ≡ errors_text es =
    rw append_assoc at (lines_are es (a ++ error_bytes e) (at + 14) (omega (arith, length-append a (error_bytes e), error_length e)) ws) in
    rw (
      after 2 2 a x at h,
      after 4 4 a x at h,
      after 4 8 a x at h,
      after 2 12 a x at h,
      number_is e rest w,
      start_is e rest w,
      end_is e rest w,
      found_is e rest w,
      next,
    )

-- the lines of an error list are those of its errors
pub lines_errors : (es : List Error) → All Narrow es → error_lines (length (errors_bytes es) / 14) (errors_bytes es) 0 ≡ errors_text es
lines_errors es w =
    let n : length (errors_bytes es) / 14 ≡ length es = omega (arith, errors_length es) in
    rw n (lines_are es [] 0 refl w)

pub printed_refused : (t : Bytes) {number offset : ℕ} → decode t ≡ refused number offset → printed t ≡ refusal_line number offset
unfolding printed
printed_refused t d = rw (read_refused t 65536 d)

-- the errors that are answered are those of the parse
errors_are : (ts : List Token) (es : List Error) → parse ts ≡ Outcome.errors es → es ≡ (parse_schema ts).errors
errors_are ts es p = go (parse_schema ts).errors refl
  where
    go : (xs : List Error) → (parse_schema ts).errors ≡ xs → es ≡ (parse_schema ts).errors
    go [] e = absurd (schema≢errors (sym (parse_schema_lem ts e) ∙ p))
    go (x ∷ xs) e = let q = sym (parse_errors ts e) ∙ p in let same : x ∷ xs ≡ es = cc in sym same ∙ sym e

module _ (t : Bytes) {ts : List Token} (d : decode t ≡ tokens ts) where
  -- an error list always fits
  list_fits : {es : List Error} → parse ts ≡ Outcome.errors es → length (errors_bytes es) ≤ 65536
  list_fits {es} p =
      let j = decode_judged t ts d in
      let s = errors_short ts (omega (arith, j.count, wf_few j.wf)) in
      rw (errors_are ts es p) (omega arith)

  pub printed_errors : {es : List Error} → AllBytes t → parse ts ≡ Outcome.errors es → printed t ≡ errors_text es
  unfolding printed
  printed_errors {es} a p =
      let w : All Narrow es = rw (errors_are ts es p) (errors_narrow t ts a d) in
      rw (table_answer t 65536 ts d (rw p (list_fits p)), p) (lines_errors es w)

  -- the text where it and the schema table fit; that the table decodes to the schema again is the writer's part
  pub printed_schema : {s : Schema} → parse ts ≡ Outcome.schema s → length (encode_schema s) ≤ 65536 → decode_schema (encode_schema s) ≡ some s
      → length (text_of s) ≤ 65536 → printed t ≡ text_of s
  unfolding printed schema_printed pick
  printed_schema {s} p l b h =
      rw (table_answer t 65536 ts d (rw p l), p, le-ltb 131072 (length (encode_schema s)) (omega arith), b, le-leb (length (text_of s)) 65536 h)

  -- What reading gives, its table gives back: so of a schema the text is printed where both answers fit,
  pub printed_text : {s : Schema} → AllBytes t → parse ts ≡ Outcome.schema s → length (encode_schema s) ≤ 65536 → length (text_of s) ≤ 65536
      → printed t ≡ text_of s
  printed_text {s} a p l h = printed_schema p l (schema_back t ts s a d p) h

  -- and R8 where the text doesn't,
  pub printed_long_text : {s : Schema} → AllBytes t → parse ts ≡ Outcome.schema s → length (encode_schema s) ≤ 65536 → 65536 < length (text_of s)
      → printed t ≡ refusal_line 8 0
  unfolding printed schema_printed pick
  printed_long_text {s} a p l h =
      rw (
        table_answer t 65536 ts d (rw p l),
        p,
        le-ltb 131072 (length (encode_schema s)) (omega arith),
        schema_back t ts s a d p,
        lt-leb (length (text_of s)) 65536 h,
      )

  -- or the schema table doesn't.
  pub printed_long_table : {s : Schema} → parse ts ≡ Outcome.schema s → 65536 < length (encode_schema s) → printed t ≡ refusal_line 8 0
  unfolding printed fitted pick
  printed_long_table {s} p h = rw (read_tokens t 65536 d, p, lt-leb (length (encode_schema s)) 65536 h)
