-- What is printed is never longer than 147,456 bytes, so that a buffer of so many holds it whole: a line for each of at most 4,096 errors, or at most
-- 65,536 bytes of text, or one line. And of a table that is too long no more than its first 65,537 bytes matter.
use Prim.Native.Nat.{ℕ, zero, suc, ◌+◌, ◌*◌, ◌/◌, ◌^◌, ◌≤◌, ◌<◌}
use mathlib.Core.Path.{◌≡◌, refl, sym, ◌∙◌}
use mathlib.Core.Bool.{Bool, true, false}
use mathlib.Core.Option.{Option, none, some}
use mathlib.Core.List.{List, [], ◌∷◌, ◌++◌}
use native.Mathlib.Numerals.{sub-one}
use native.Mathlib.Omega.{arith}
use lib.Dec.{leb, ltb}
use lib.ListN.{length, take, drop, length-append, length-drop, length-take}
use borrow.Author.Tests.{leb-true, lt-ltb, ltb-false}
use Rattle.wire.specs.Bytes.{Bytes}
use Rattle.wire.specs.Le.{le_bytes, le_at}
use Rattle.wire.specs.Pick.{pick}
use Rattle.wire.specs.Record.{head_bytes, record_bytes}
use Rattle.wire.proofs.Numbers.{AllBytes}
use Rattle.token.specs.Token.{Token}
use Rattle.token.specs.Table.{size_of, token_of, row_after, token_fault, fault_of, Decoded, refused, tokens, add_token, decode_from, decode}
use Rattle.token.proofs.Records.{good, decode_end, decode_full, decode_bad, decode_next}
use Rattle.token.proofs.Walk.{decode_judged, wf_few}
use Rattle.schema.specs.Ast.{Schema}
use Rattle.schema.specs.Encode.{encode_schema}
use Rattle.schema.specs.Decode.{decode_schema}
use Rattle.schema.proofs.Parts.{le_at_small}
use Rattle.text.specs.Text.{text_of}
use Rattle.text.proofs.Short.{decimal_short}
use Rattle.grammar.specs.Error.{Error, error_bytes, errors_bytes}
use Rattle.grammar.specs.Meaning.{schema_of}
use Rattle.grammar.specs.Reading.{parse, parse_schema}
use Rattle.grammar.specs.Answer.{Answer, answer_of, bytes_of, fitted, read_answer}
use Rattle.grammar.proofs.Count.{errors_short}
use Rattle.grammar.proofs.Outcomes.{parse_schema_lem, parse_errors, read_refused, read_tokens}
use Rattle.printed.specs.Printed.{spaced, refusal_line, error_text, error_line, error_lines, text_printed, schema_printed, answer_printed, printed, Prints}

spaced_short : (k n : ℕ) → n < 10 ^ suc k → length (spaced n) ≤ suc (suc k)
unfolding spaced
spaced_short k n h = omega (arith, decimal_short k n h)

refusal_short : (number offset : ℕ) → number < 10 → offset < 100000 → length (refusal_line number offset) ≤ 10
unfolding refusal_line
refusal_short number offset h k =
    simp length-append (omega (arith, spaced_short 0 number (omega arith), spaced_short 4 offset (omega arith)))

-- the lines of a list of bytes
line_short : (list : Bytes) (at : ℕ) → AllBytes list → at + 14 ≤ length list → length (error_line list at) ≤ 36
unfolding error_text
line_short list at a h =
    let number = le_at_small 2 list (at + 2) a (omega arith) in
    let start = le_at_small 4 list (at + 4) a (omega arith) in
    let end = le_at_small 4 list (at + 8) a (omega arith) in
    let found = le_at_small 2 list (at + 12) a (omega arith) in
    simp length-append
    (omega (
      arith,
      spaced_short 4 (le_at 2 list (at + 2)) (omega arith),
      spaced_short 9 (le_at 4 list (at + 4)) (omega arith),
      spaced_short 9 (le_at 4 list (at + 8)) (omega arith),
      spaced_short 4 (le_at 2 list (at + 12)) (omega arith),
    ))

lines_short : (n : ℕ) (list : Bytes) (at : ℕ) → AllBytes list → at + 14 * n ≤ length list → length (error_lines n list at) ≤ 36 * n
unfolding error_lines
lines_short zero list at a h = omega arith
lines_short (suc n) list at a h =
    omega (
      arith,
      length-append (error_line list at) (error_lines n list (at + 14)),
      line_short list at a (omega arith),
      lines_short n list (at + 14) a (omega arith),
    )

all_append : (a b : Bytes) → AllBytes a → AllBytes b → AllBytes (a ++ b)
all_append [] b h k = k
all_append (x ∷ a) b h k = (h.0, all_append a b h.1 k)

le_all : (k n : ℕ) → AllBytes (le_bytes k n)
unfolding le_bytes
le_all zero n = tt
le_all (suc k) n = (omega arith, le_all k (n / 256))

head_all : (a b c d : ℕ) → AllBytes (head_bytes a b c d)
unfolding head_bytes
head_all a b c d =
    all_append (le_bytes 2 a ++ le_bytes 2 b ++ le_bytes 4 c) (le_bytes 4 d)
    (all_append (le_bytes 2 a ++ le_bytes 2 b) (le_bytes 4 c) (all_append (le_bytes 2 a) (le_bytes 2 b) (le_all 2 a) (le_all 2 b)) (le_all 4 c))
    (le_all 4 d)

errors_all : (es : List Error) → AllBytes (errors_bytes es)
unfolding errors_bytes error_bytes record_bytes
errors_all [] = tt
errors_all (e ∷ es) =
    let payload = le_bytes 2 e.found in
    let head = head_bytes (12 + length payload) e.number e.range.start e.range.end in
    all_append (head ++ payload) (errors_bytes es) (all_append head payload (head_all _ _ _ _) (le_all 2 e.found)) (errors_all es)

-- the numbers of a refusal
pick_few : (b : Bool) (x y k : ℕ) → x ≤ k → y ≤ k → pick b x y ≤ k
unfolding pick
pick_few true x y k h l = h
pick_few false x y k h l = l

fault_few : (last row : ℕ) (bs : Bytes) → fault_of last row bs ≤ 7
unfolding fault_of token_fault
fault_few last row bs =
    pick_few _ _ _ 7 (omega arith)
    (pick_few _ _ _ 7 (omega arith) (pick_few _ _ _ 7 (omega arith) (pick_few _ _ _ 7 (omega arith) (pick_few _ _ _ 7 (omega arith) (omega arith)))))

-- a refusal names a record of the table
abbrev Small : ℕ → ℕ → ℕ → Type 0
Small number offset limit = (number < 10) × (offset ≤ limit)

added_refused : (t : Token) (d : Decoded) {number offset : ℕ} → add_token t d ≡ refused number offset → d ≡ refused number offset
added_refused t (refused m at) e = e
added_refused t (tokens us) e = let z : ◌≡◌ {A = ℕ} 0 1 = cc in absurd (omega arith)

same_refused : {m at number offset limit : ℕ} → ◌≡◌ {A = Decoded} (refused m at) (refused number offset) → m < 10 → at ≤ limit → Small number offset limit
same_refused {m} {at} {number} {offset} e h k =
    let p : m ≡ number = cc in
    let q : at ≡ offset = cc in
    (omega arith, omega arith)

refused_from : (number offset n at last row : ℕ) (bs : Bytes) → decode_from n at last row bs ≡ refused number offset → Small number offset (at + length bs)
refused_from number offset zero at last row [] e = let z = decode_end at last row 0 in let w : ◌≡◌ {A = ℕ} 0 1 = cc in absurd (omega arith)
refused_from number offset (suc n) at last row [] e = let z = decode_end at last row (suc n) in let w : ◌≡◌ {A = ℕ} 0 1 = cc in absurd (omega arith)
refused_from number offset zero at last row (b ∷ bs) e = same_refused (sym (decode_full at last row (b ∷ bs) (omega arith)) ∙ e) (omega arith) (omega arith)
refused_from number offset (suc n) at last row (b ∷ bs) e = go (fault_of last row (b ∷ bs)) refl (refused_from number offset n)
  where
    x : Bytes
    x = b ∷ bs

    go : (f : ℕ) → fault_of last row x ≡ f
        → ((at last row : ℕ) (bs : Bytes) → decode_from n at last row bs ≡ refused number offset → Small number offset (at + length bs))
        → Small number offset (at + length x)
    go (suc f) q ih =
        same_refused (sym (decode_bad at last row (suc n) x (λ z. omega arith) (omega arith) (suc f) (sym q) (λ z. omega arith)) ∙ e)
        (omega (arith, fault_few last row x)) (omega arith)
    go zero q ih =
        let g = good last row x q in
        let next = decode_from n (at + size_of x) (token_of x).end (row_after row (token_of x).kind) (drop (size_of x) x) in
        let step : decode_from (suc n) at last row x ≡ add_token (token_of x) next =
        rw sub-one at (decode_next at last row (suc n) x (λ z. omega arith) (omega arith) q) in
        let d : next ≡ refused number offset = added_refused (token_of x) next (sym step ∙ e) in
        let i = ih (at + size_of x) (token_of x).end (row_after row (token_of x).kind) (drop (size_of x) x) d in
        (i.0, omega (arith, i.1, length-drop (size_of x) x, g.fits.tail))

refused_small : (t : Bytes) {number offset : ℕ} → decode t ≡ refused number offset → Small number offset 65536
unfolding decode
refused_small t {number} {offset} e = go (ltb 65536 (length t)) refl e
  where
    go : (b : Bool) → ltb 65536 (length t) ≡ b → pick b (refused 1 0) (decode_from 4096 0 0 0 t) ≡ refused number offset → Small number offset 65536
    go true q e = let r : ◌≡◌ {A = Decoded} (refused 1 0) (refused number offset) = unfold pick in e in same_refused r (omega arith) (omega arith)
    go false q e =
        let s = refused_from number offset 4096 0 0 0 t (unfold pick in e) in
        (s.0, omega (arith, s.1, ltb-false 65536 (length t) q))

text_short : (d : Option Schema) → length (text_printed d) ≤ 65536
unfolding pick
text_short none = omega (arith, refusal_short 9 0 (omega arith) (omega arith))
text_short (some s) = go (leb (length (text_of s)) 65536) refl
  where
    go : (b : Bool) → leb (length (text_of s)) 65536 ≡ b → length (pick (leb (length (text_of s)) 65536) (text_of s) (refusal_line 8 0)) ≤ 65536
    go true e = rw e (leb-true (length (text_of s)) 65536 e)
    go false e = rw e (omega (arith, refusal_short 8 0 (omega arith) (omega arith)))

schema_short : (bs : Bytes) → length (schema_printed bs) ≤ 65536
unfolding schema_printed pick
schema_short bs = go (ltb 131072 (length bs))
  where
    go : (b : Bool) → length (pick b (refusal_line 1 0) (text_printed (decode_schema bs))) ≤ 65536
    go true = omega (arith, refusal_short 1 0 (omega arith) (omega arith))
    go false = text_short (decode_schema bs)

fitted_short : (room : ℕ) (a : Answer) → length (answer_printed a) ≤ 147456 → length (answer_printed (fitted room a)) ≤ 147456
unfolding fitted pick
fitted_short room a h = go (leb (length (bytes_of a)) room)
  where
    go : (b : Bool) → length (answer_printed (pick b a (Answer.refusal 8 0))) ≤ 147456
    go true = h
    go false = omega (arith, refusal_short 8 0 (omega arith) (omega arith))

errors_printed : (ts : List Token) (es : List Error) → length ts ≤ 4096 → es ≡ (parse_schema ts).errors
    → length (error_lines (length (errors_bytes es) / 14) (errors_bytes es) 0) ≤ 147456
errors_printed ts es h e =
    let n = length (errors_bytes es) / 14 in
    let s : length (errors_bytes es) ≤ 57344 = rw e (errors_short ts h) in
    omega (arith, lines_short n (errors_bytes es) 0 (errors_all es) (omega arith))

tokens_short : (ts : List Token) → length ts ≤ 4096 → length (answer_printed (answer_of (parse ts))) ≤ 147456
tokens_short ts h = go (parse_schema ts).errors refl
  where
    go : (es : List Error) → (parse_schema ts).errors ≡ es → length (answer_printed (answer_of (parse ts))) ≤ 147456
    go [] e = rw (parse_schema_lem ts e) (omega (arith, schema_short (encode_schema (schema_of (parse_schema ts).value))))
    go (x ∷ es) e = rw (parse_errors ts e) (errors_printed ts (x ∷ es) h (sym e))

pub printed_short : (t : Bytes) → length (printed t) ≤ 147456
unfolding printed
printed_short t = go (decode t) refl
  where
    go : (d : Decoded) → decode t ≡ d → length (answer_printed (read_answer t 65536)) ≤ 147456
    go (refused number offset) e =
        let s = refused_small t e in
        rw (read_refused t 65536 e) (omega (arith, refusal_short number offset s.0 (omega (arith, s.1))))
    go (tokens ts) e =
        let j = decode_judged t ts e in
        rw (read_tokens t 65536 e) (fitted_short 65536 (answer_of (parse ts)) (tokens_short ts (omega (arith, j.count, wf_few j.wf))))

-- reading may stop one byte past the longest table
decode_past : (t : Bytes) → 65536 < length t → decode t ≡ refused 1 0
unfolding decode pick
decode_past t h = rw (lt-ltb 65536 (length t) h)

pub printed_past : (t : Bytes) → 65536 < length t → printed (take 65537 t) ≡ printed t
unfolding printed
printed_past t h =
    let l : 65536 < length (take 65537 t) = omega (arith, length-take 65537 t) in
    rw (read_refused t 65536 (decode_past t h), read_refused (take 65537 t) 65536 (decode_past (take 65537 t) l))

-- so the place past what was printed lies in the buffer
pub prints_end : {t schema₀ schema₁ text₀ text₁ : Bytes} {r : ℕ} → Prints t schema₀ schema₁ text₀ text₁ r → r ≤ 147456
prints_end {t} p = omega (arith, p.size, printed_short t)
