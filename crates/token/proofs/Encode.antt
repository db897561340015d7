-- A table and its tokens determine each other: a table decodes to exactly the tokens that are in it (`decode-holds`, `holds-decode`).
use borrow.Author.Tests.{leb-true, eqb-true, le-leb, le-ltb}
use Prim.Native.Nat.{ℕ, zero, suc, ◌+◌, ◌-◌, ◌^◌, ◌≤◌, ◌<◌}
use mathlib.Core.Path.{◌≡◌, refl, ◌∙◌}
use mathlib.Core.Bool.{Bool, true, false, and-eq-true_iff}
use mathlib.Core.List.{List, [], ◌∷◌, ◌++◌, append_assoc}
use native.Mathlib.Omega.{arith}
use native.Mathlib.Nat.{add-sub_cancel_left, pow-succ'}
use native.Mathlib.Numerals.{sub-one}
use lib.Dec.{leb, eqb}
use lib.ListN.{length, take, drop, take-append-drop, length-drop, length-append}
use lib.Seq.{length-take-le, take_at, drop_at, take-add, drop-drop}
use Rattle.wire.specs.Bytes.{Bytes}
use Rattle.wire.specs.Le.{le_bytes, le_number, le_at, u16_at, u32_at}
use Rattle.wire.specs.Pick.{pick}
use Rattle.wire.specs.Record.{head_bytes, record_bytes}
use Rattle.wire.proofs.Numbers.{AllBytes, le_bytes-length, le_at-le_bytes}
use Rattle.identifier.specs.Byte.{within}
use Rattle.token.specs.Kind.{k_identifier, k_path, k_integer, k_comment}
use Rattle.token.specs.Token.{Token, end_of}
use Rattle.token.specs.Payload.{is_identifier, is_path, is_integer, is_comment, is_payload}
use Rattle.token.specs.Table.{size_of, token_of, is_whole, token_fault, fault_of, tokens, decode_from, decode, encode_tokens}
use Rattle.token.specs.Fit.{Sound, Fit, Holds}
use Rattle.token.specs.Fit.Fit.{none, more}
use Rattle.token.proofs.Records.{Fits, bounds, whole_is, decode_end, decode_next}
use Rattle.token.proofs.Paragraphs.{all_take, all_drop, le_again, paragraphs_small}
use Rattle.token.proofs.Walk.{opened, fit, decode_small}

pub head_length : (size kind start end : ℕ) → length (head_bytes size kind start end) ≡ 12
unfolding head_bytes
head_length size kind start end = simp (length-append, le_bytes-length)

-- ---- from a table to its tokens

-- the number in k bytes at a place, as these bytes
pub bytes_at : (k at : ℕ) (bs : Bytes) → AllBytes bs → at + k ≤ length bs → le_bytes k (le_at k bs at) ≡ take k (drop at bs)
unfolding le_at
bytes_at k at bs h l = le_again k (drop at bs) (all_drop at bs h) (rw length-drop (omega arith))

-- the head of a record is its first 12 bytes
head_again : (bs : Bytes) → AllBytes bs → 12 ≤ length bs → head_bytes (size_of bs) (token_of bs).kind (token_of bs).start (token_of bs).end ≡ take 12 bs
unfolding head_bytes token_of
head_again bs h l =
    rw (bytes_at 2 0 bs h (omega arith), bytes_at 2 2 bs h (omega arith), bytes_at 4 4 bs h (omega arith), bytes_at 4 8 bs h (omega arith))
    (rw (← take-add 2 2 bs, ← take-add 4 4 bs, ← take-add 8 4 bs))

pub record_again : (bs : Bytes) → AllBytes bs → Fits bs
    → record_bytes (token_of bs).kind (token_of bs).start (token_of bs).end (token_of bs).payload ++ drop (size_of bs) bs ≡ bs
unfolding record_bytes token_of
record_again bs h f =
    let d = length-drop 12 bs in
    let l : 12 + length (take (size_of bs - 12) (drop 12 bs)) ≡ size_of bs = rw (length-take-le (size_of bs - 12) (drop 12 bs) (omega (arith, f.tail)))
    (omega (arith, f.head)) in
    let e : 12 + (size_of bs - 12) ≡ size_of bs = omega (arith, f.head) in
    rw (l, head_again bs h (omega (arith, f.head, f.tail)), ← take-add 12 (size_of bs - 12) bs, e, take-append-drop (size_of bs) bs)

encoded : (n at last row : ℕ) (bs : Bytes) (ts : List Token) → AllBytes bs → decode_from n at last row bs ≡ tokens ts → encode_tokens ts ≡ bs
unfolding encode_tokens
encoded zero at last row [] ts h e = let z = decode_end at last row 0 in let q : ts ≡ [] = cc in rw q
encoded (suc n) at last row [] ts h e = let z = decode_end at last row (suc n) in let q : ts ≡ [] = cc in rw q
encoded zero at last row (b ∷ bs) ts h e = let o = opened zero at last row (b ∷ bs) ts (omega arith) e in absurd (omega (arith, o.more))
encoded (suc n) at last row (b ∷ bs) ts h e =
    let x = b ∷ bs in
    let o = opened (suc n) at last row x ts (omega arith) e in
    let i = encoded n _ _ _ (drop (size_of x) x) o.rest (all_drop (size_of x) x h) (rw sub-one at o.next) in
    rw (o.whole, i) (record_again x h o.good.fits)

-- k bytes hold less than 256 to the k
pub le_small : (bs : Bytes) → AllBytes bs → le_number bs < 256 ^ length bs
unfolding le_number
le_small [] h = omega arith
le_small (b ∷ bs) h = let i = le_small bs h.1 in rw pow-succ' (omega (arith, h.0))

end_small : (bs : Bytes) → AllBytes bs → Fits bs → (token_of bs).end < 4294967296
unfolding token_of le_at
end_small bs h f =
    let d = length-drop 8 bs in
    let l : length (take 4 (drop 8 bs)) ≡ 4 = length-take-le 4 (drop 8 bs) (omega (arith, f.head, f.tail)) in
    rw l at (le_small (take 4 (drop 8 bs)) (all_take 4 (drop 8 bs) (all_drop 8 bs h)))

ends_small : (n at last row : ℕ) (bs : Bytes) (ts : List Token) → AllBytes bs → last < 4294967296 → decode_from n at last row bs ≡ tokens ts
    → end_of last ts < 4294967296
ends_small zero at last row [] ts h m e = let z = decode_end at last row 0 in let q : ts ≡ [] = cc in rw q m
ends_small (suc n) at last row [] ts h m e = let z = decode_end at last row (suc n) in let q : ts ≡ [] = cc in rw q m
ends_small zero at last row (b ∷ bs) ts h m e = let o = opened zero at last row (b ∷ bs) ts (omega arith) e in absurd (omega (arith, o.more))
ends_small (suc n) at last row (b ∷ bs) ts h m e =
    let x = b ∷ bs in
    let o = opened (suc n) at last row x ts (omega arith) e in
    rw o.whole (ends_small n _ _ _ (drop (size_of x) x) o.rest (all_drop (size_of x) x h) (end_small x h o.good.fits) (rw sub-one at o.next))

-- ---- from tokens to their table

-- what a token's numbers have to be for its record to hold them
pub record Narrow (t : Token) : Type 0 where
  pub kind : t.kind < 65536
  pub start : t.start < 4294967296
  pub end : t.end < 4294967296
  pub size : 12 + length t.payload < 65536

abbrev pub entry : Token → Bytes
entry t = record_bytes t.kind t.start t.end t.payload

module _ (t : Token) (rest : Bytes) (w : Narrow t) where
  first_size : size_of (entry t ++ rest) ≡ 12 + length t.payload
  unfolding record_bytes head_bytes
  first_size = simp append_assoc (le_at-le_bytes 2 (12 + length t.payload) [] _ 0 refl w.size)

  first_kind : u16_at (entry t ++ rest) 2 ≡ t.kind
  unfolding record_bytes head_bytes
  first_kind = simp append_assoc (le_at-le_bytes 2 t.kind (le_bytes 2 (12 + length t.payload)) _ 2 (le_bytes-length 2 _) w.kind)

  first_start : u32_at (entry t ++ rest) 4 ≡ t.start
  unfolding record_bytes head_bytes
  first_start =
      let a = le_bytes 2 (12 + length t.payload) ++ le_bytes 2 t.kind in
      simp append_assoc (simp append_assoc at (le_at-le_bytes 4 t.start a (le_bytes 4 t.end ++ (t.payload ++ rest)) 4
      (simp (length-append, le_bytes-length)) w.start))

  first_end : u32_at (entry t ++ rest) 8 ≡ t.end
  unfolding record_bytes head_bytes
  first_end =
      let a = le_bytes 2 (12 + length t.payload) ++ le_bytes 2 t.kind ++ le_bytes 4 t.start in
      simp append_assoc (simp append_assoc at (le_at-le_bytes 4 t.end a (t.payload ++ rest) 8 (simp (length-append, le_bytes-length)) w.end))

  after_head : drop 12 (entry t ++ rest) ≡ t.payload ++ rest
  unfolding record_bytes
  after_head =
      let h = head_bytes (12 + length t.payload) t.kind t.start t.end in
      rw (append_assoc h t.payload rest) (drop_at h (t.payload ++ rest) 12 (head_length _ _ _ _))

  pub first_token : token_of (entry t ++ rest) ≡ t
  unfolding token_of
  first_token = rw (first_size, first_kind, first_start, first_end, after_head, add-sub_cancel_left, take_at t.payload rest (length t.payload) refl)

  pub first_rest : drop (size_of (entry t ++ rest)) (entry t ++ rest) ≡ rest
  first_rest = rw (first_size, ← drop-drop, after_head) (drop_at t.payload rest (length t.payload) refl)

  first_length : length (entry t ++ rest) ≡ 12 + length t.payload + length rest
  unfolding record_bytes
  first_length = simp (length-append, head_length)

  pub first_whole : is_whole (entry t ++ rest) ≡ true
  first_whole =
      let l = first_length in
      let s = first_size in
      whole_is (entry t ++ rest)
      ∙ rw (
        le-leb 12 (length (entry t ++ rest)) (omega arith),
        le-leb 12 (size_of (entry t ++ rest)) (omega arith),
        le-leb (size_of (entry t ++ rest)) (length (entry t ++ rest)) (omega arith),
      )

faultless : (last row : ℕ) (bs : Bytes) → is_whole bs ≡ true → Sound last row (token_of bs) → fault_of last row bs ≡ 0
unfolding fault_of token_fault pick
faultless last row bs w s =
    rw (w, le-leb _ _ s.known.0, le-leb _ _ s.known.1, s.payload, le-leb _ _ s.order.0, le-leb _ _ s.order.1, le-ltb _ _ s.shallow)

-- a payload is far from filling a record's length
either : {P : Type 0} (b x y : Bool) → pick b x y ≡ true → (x ≡ true → P) → (y ≡ true → P) → P
unfolding pick
either true x y e f g = f e
either false x y e f g = g e

payload_small : (kind : ℕ) (p : Bytes) → is_payload kind p ≡ true → length p ≤ 32832
unfolding is_payload is_identifier is_path is_integer is_comment
payload_small kind p e =
    either (eqb kind k_identifier) _ _ e
    (λ i. omega (arith, bounds 1 (length p) (length p) 128 ((and-eq-true_iff (within 1 128 (length p)) _).0 i).0))
    λ e. either (eqb kind k_path) _ _ e
    (λ i. omega (arith, leb-true (length p) 128 ((and-eq-true_iff (leb (length p) 128) _).0 i).0))
    λ e. either (eqb kind k_integer) _ _ e
    (λ i. omega (arith, eqb-true (length p) 8 i))
    λ e. either (eqb kind k_comment) _ _ e
    (λ i. omega (arith, paragraphs_small 32 p ((and-eq-true_iff (leb 1 (length p)) _).0 i).1))
    λ i. omega (arith, eqb-true (length p) 0 i)

narrow : {last row : ℕ} {t : Token} → Sound last row t → t.end < 4294967296 → Narrow t
narrow {t} s e =
    let p = payload_small t.kind t.payload s.payload in
    record { kind = omega (arith, s.known); start = omega (arith, s.order); end = e; size = omega arith }

ends_rise : {n last row : ℕ} {ts : List Token} → Fit n last row ts → last ≤ end_of last ts
ends_rise none = omega arith
ends_rise (more s f) = let i = ends_rise f in omega (arith, s.order)

decode_encoded : {n last row : ℕ} {ts : List Token} → Fit n last row ts → (at : ℕ) → end_of last ts < 4294967296
    → decode_from n at last row (encode_tokens ts) ≡ tokens ts
unfolding encode_tokens
decode_encoded {n} {last} {row} none at e = decode_end at last row n
decode_encoded (more {n} {last} {row} {t} {ts} s f) at e =
    let x = entry t ++ encode_tokens ts in
    let r = ends_rise f in
    let w = narrow s (omega arith) in
    let k = first_token t (encode_tokens ts) w in
    let l = first_length t (encode_tokens ts) w in
    let z = faultless last row x (first_whole t (encode_tokens ts) w) (rw k s) in
    decode_next at last row (suc n) x (λ z. omega arith) (omega arith) z
    ∙ rw (k, first_rest t (encode_tokens ts) w, sub-one, decode_encoded f (at + size_of x) e)

-- ---- the theorem

-- a table decodes to exactly the tokens that are in it
pub decode_holds : (t : Bytes) (ts : List Token) → AllBytes t → decode t ≡ tokens ts → Holds t ts
decode_holds t ts h e =
    let s = decode_small t ts e in
    record {
      fit = fit 4096 0 0 0 t ts s.1;
      narrow = ends_small 4096 0 0 0 t ts h (omega arith) s.1;
      bytes = encoded 4096 0 0 0 t ts h s.1;
      small = s.0;
    }

pub holds_decode : (t : Bytes) (ts : List Token) → Holds t ts → decode t ≡ tokens ts
unfolding decode pick
holds_decode t ts c = rw (le-ltb 65536 (length t) c.small, ← c.bytes) (decode_encoded c.fit 0 c.narrow)

pub decode_encode : (ts : List Token) → Fit 4096 0 0 ts → end_of 0 ts < 4294967296 → length (encode_tokens ts) ≤ 65536 → decode (encode_tokens ts) ≡ tokens ts
decode_encode ts f e l = holds_decode (encode_tokens ts) ts (record { fit = f; narrow = e; bytes = refl; small = l })
