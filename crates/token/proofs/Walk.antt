-- Places and tokens: a step from place to place is the tail of the list of tokens, and keeps what the check has shown.
use borrow.Author.Tests.{ltb-false, eqb-true}
use Prim.Native.Nat.{ℕ, zero, suc, ◌+◌, ◌-◌, ◌≤◌, ◌<◌, max}
use mathlib.Core.Path.{◌≡◌, refl, sym, ap, ◌∙◌}
use mathlib.Core.Bool.{Bool, true, false}
use mathlib.Core.List.{List, [], ◌∷◌}
use native.Mathlib.Omega.{arith}
use native.Mathlib.Numerals.{sub-one}
use lib.Dec.{ltb, eqb}
use lib.ListN.{length, take, drop, length-drop}
use lib.Seq.{drop-drop, length-take-le}
use Rattle.wire.specs.Bytes.{Bytes}
use Rattle.wire.specs.Le.{le_number, le_at, u16_at, u64_at}
use Rattle.wire.specs.Pick.{pick}
use Rattle.token.specs.Kind.{k_integer, k_left_square}
use Rattle.token.specs.Payload.{is_integer, is_payload}
use Rattle.token.specs.Token.{Token, end_of}
use Rattle.token.specs.Table.{size_of, token_of, row_after, fault_of, Decoded, refused, tokens, add_token, decode_from, decode}
use Rattle.token.specs.Fit.{Fit}
use Rattle.token.specs.Fit.Fit.{none, more}
use Rattle.token.specs.Checked.{Told, answer_of, checked}
use Rattle.token.specs.Places.{tok_at, next_at, tokens_in, tokens_from, Wf}
use Rattle.token.proofs.Records.{Fits, Good, good, decode_end, decode_full, decode_bad, decode_next}

-- a number in a record, read from the table
pub field : (k : ℕ) (t : Bytes) (at j : ℕ) → le_at k (drop at t) j ≡ le_at k t (at + j)
unfolding le_at
field k t at j = rw drop-drop

-- any number of steps that is large enough gives the same tokens
enough : (n m : ℕ) (bs : Bytes) → length bs ≤ n → length bs ≤ m → tokens_in n bs ≡ tokens_in m bs
enough zero zero bs h k = refl
enough zero (suc m) [] h k = refl
enough zero (suc m) (b ∷ bs) h k = absurd (omega arith)
enough (suc n) zero [] h k = refl
enough (suc n) zero (b ∷ bs) h k = absurd (omega arith)
enough (suc n) (suc m) [] h k = refl
enough (suc n) (suc m) (b ∷ bs) h k =
    let l = length-drop (max 12 (size_of (b ∷ bs))) (b ∷ bs) in
    ap (λ (r : List Token). token_of (b ∷ bs) ∷ r) (enough n m (drop (max 12 (size_of (b ∷ bs))) (b ∷ bs)) (omega arith) (omega arith))

first : (n m : ℕ) (bs : Bytes) → 0 < length bs → length bs ≤ n → length bs - max 12 (size_of bs) ≤ m
    → tokens_in n bs ≡ token_of bs ∷ tokens_in m (drop (max 12 (size_of bs)) bs)
first n m [] z h k = absurd (omega arith)
first zero m (b ∷ bs) z h k = absurd (omega arith)
first (suc n) m (b ∷ bs) z h k =
    let l = length-drop (max 12 (size_of (b ∷ bs))) (b ∷ bs) in
    ap (λ (r : List Token). token_of (b ∷ bs) ∷ r) (enough n m (drop (max 12 (size_of (b ∷ bs))) (b ∷ bs)) (omega arith) (omega arith))

module _ (t : Bytes) (at : ℕ) where
  pub tokens_end : length t ≤ at → tokens_from t at ≡ []
  unfolding tokens_from
  tokens_end h = let z : length t - at ≡ 0 = omega arith in rw z

  pub next_past : at + 12 ≤ next_at t at
  unfolding next_at
  next_past = omega arith

  pub tokens_step : at < length t → tokens_from t at ≡ tok_at t at ∷ tokens_from t (next_at t at)
  unfolding tokens_from next_at
  tokens_step h =
      let l = length-drop at t in
      first (length t - at) (length t - next_at t at) (drop at t) (omega arith) (omega arith) (omega arith) ∙ rw (drop-drop (max 12 (size_of (drop at t))) at t)

-- ---- what decodes to tokens, at its first record

pub record Opened (n at last row : ℕ) (bs : Bytes) (ts : List Token) : Type 0 where
  pub more : 0 < n
  pub good : Good last row bs
  pub rest : List Token
  pub whole : ts ≡ token_of bs ∷ rest
  pub next : decode_from (n - 1) (at + size_of bs) (token_of bs).end (row_after row (token_of bs).kind) (drop (size_of bs) bs) ≡ tokens rest

added : (t : Token) (d : Decoded) (ts : List Token) → add_token t d ≡ tokens ts → (us : List Token) × (ts ≡ t ∷ us) × (d ≡ tokens us)
added t (refused number at) ts e = let z : ◌≡◌ {A = ℕ} 0 1 = cc in absurd (omega arith)
added t (tokens us) ts e = (us, cc, refl)

pub opened : (n at last row : ℕ) (bs : Bytes) (ts : List Token) → 0 < length bs → decode_from n at last row bs ≡ tokens ts → Opened n at last row bs ts
opened zero at last row bs ts h e = let f = decode_full at last row bs h in let z : ◌≡◌ {A = ℕ} 0 1 = cc in absurd (omega arith)
opened (suc n) at last row bs ts h e = go (fault_of last row bs) refl
  where
    go : (f : ℕ) → fault_of last row bs ≡ f → Opened (suc n) at last row bs ts
    go (suc f) q =
        let b = decode_bad at last row (suc n) bs (λ z. omega arith) h (suc f) (sym q) (λ z. omega arith) in
        let z : ◌≡◌ {A = ℕ} 0 1 = cc in
        absurd (omega arith)
    go zero q =
        let a = added _ _ ts (sym (decode_next at last row (suc n) bs (λ z. omega arith) h q) ∙ e) in
        record { more = omega arith; good = good last row bs q; rest = a.0; whole = a.1; next = a.2 }

-- a good record's length is its step
step_is : {bs : Bytes} → Fits bs → max 12 (size_of bs) ≡ size_of bs
step_is f = omega (arith, f.head)

decoded : (m n at last row : ℕ) (bs : Bytes) (ts : List Token) → length bs ≤ m → decode_from n at last row bs ≡ tokens ts → ts ≡ tokens_in m bs
decoded zero n at last row [] ts h e = let z = decode_end at last row n in cc
decoded (suc m) n at last row [] ts h e = let z = decode_end at last row n in cc
decoded zero n at last row (b ∷ bs) ts h e = absurd (omega arith)
decoded (suc m) n at last row (b ∷ bs) ts h e =
    let o = opened n at last row (b ∷ bs) ts (omega arith) e in
    let l = length-drop (size_of (b ∷ bs)) (b ∷ bs) in
    let k = o.good.fits.head in
    let i = decoded m (n - 1) _ _ _ (drop (size_of (b ∷ bs)) (b ∷ bs)) o.rest (omega arith) o.next in
    o.whole ∙ rw (step_is o.good.fits, i)

-- what the check shows of a table: it decodes to its tokens, of which there are n, the last ending at e
pub record Judged (t : Bytes) (n e : ℕ) : Type 0 where
  pub decodes : decode t ≡ tokens (tokens_from t 0)
  pub count : n ≡ length (tokens_from t 0)
  pub end : e ≡ end_of 0 (tokens_from t 0)
  pub wf : Wf t 0

pub decode_small : (t : Bytes) (ts : List Token) → decode t ≡ tokens ts → (length t ≤ 65536) × (decode_from 4096 0 0 0 t ≡ tokens ts)
unfolding decode
decode_small t ts e = go (ltb 65536 (length t)) refl e
  where
    go : (b : Bool) → ltb 65536 (length t) ≡ b → pick b (refused 1 0) (decode_from 4096 0 0 0 t) ≡ tokens ts
        → (length t ≤ 65536) × (decode_from 4096 0 0 0 t ≡ tokens ts)
    go true q e = let z : ◌≡◌ {A = ℕ} 0 1 = unfold pick in cc in absurd (omega arith)
    go false q e = (ltb-false 65536 (length t) q, unfold pick in e)

pub decode_judged : (t : Bytes) (ts : List Token) → decode t ≡ tokens ts → Judged t (length ts) (end_of 0 ts)
unfolding tokens_from
decode_judged t ts e =
    let s = decode_small t ts e in
    let k : ts ≡ tokens_from t 0 = decoded (length t - 0) 4096 0 0 0 t ts (omega arith) s.1 in
    record {
      decodes = rw (← k) e;
      count = rw (← k);
      end = rw (← k);
      wf = record { small = s.0; inside = omega arith; left = 4096; few = omega arith; last = 0; row = 0; shallow = omega arith; good = rw (← k) s.1 };
    }

pub fine : (t : Bytes) (n e : ℕ) → checked t ≡ Told.fine n e → Judged t n e
unfolding checked
fine t n e h = go (decode t) refl h
  where
    go : (d : Decoded) → decode t ≡ d → answer_of d ≡ Told.fine n e → Judged t n e
    go (refused m at) q h = let z : ◌≡◌ {A = ℕ} 0 1 = cc in absurd (omega arith)
    go (tokens ts) q h =
        let n' : length ts ≡ n = cc in
        let e' : end_of 0 ts ≡ e = cc in
        rw (← n', ← e') (decode_judged t ts q)

pub refusal : (t : Bytes) (n at : ℕ) → checked t ≡ Told.refused n at → decode t ≡ refused n at
unfolding checked
refusal t n at h = go (decode t) refl h
  where
    go : (d : Decoded) → decode t ≡ d → answer_of d ≡ Told.refused n at → decode t ≡ refused n at
    go (refused m b) q h = cc
    go (tokens ts) q h = let z : ◌≡◌ {A = ℕ} 0 1 = cc in absurd (omega arith)

-- the record at a place lies inside the table
pub record Inside (t : Bytes) (at : ℕ) : Type 0 where
  pub head : 12 ≤ size_of (drop at t)
  pub tail : at + size_of (drop at t) ≤ length t

module _ {t : Bytes} {at : ℕ} (w : Wf t at) (h : at < length t) where
  first_of : Opened w.left at w.last w.row (drop at t) (tokens_from t at)
  first_of = opened w.left at w.last w.row (drop at t) (tokens_from t at) (rw length-drop (omega (arith, h))) w.good

  pub wf_good : Good w.last w.row (drop at t)
  wf_good = first_of.good

  pub wf_inside : Inside t at
  wf_inside =
      let g = wf_good.fits in
      let k : size_of (drop at t) ≤ length t - at = rw (← length-drop at t) g.tail in
      record { head = g.head; tail = omega arith }

  pub next_is : next_at t at ≡ at + size_of (drop at t)
  unfolding next_at
  next_is = ap (at +◌) (step_is wf_good.fits)

  pub wf_next : Wf t (next_at t at)
  wf_next =
      let i = wf_inside in
      let e = next_is in
      let r : first_of.rest ≡ tokens_from t (next_at t at) = cc (first_of.whole, tokens_step t at h) in
      record {
        small = w.small;
        inside = omega arith;
        left = w.left - 1;
        few = omega (arith, w.few);
        last = (tok_at t at).end;
        row = row_after w.row (tok_at t at).kind;
        shallow = wf_good.sound.shallow;
        good = rw (← r, e, ← drop-drop (size_of (drop at t)) at t) first_of.next;
      }

  pub payload_length : length (tok_at t at).payload ≡ size_of (drop at t) - 12
  unfolding token_of
  payload_length = let g = wf_good.fits in let l = length-drop 12 (drop at t) in length-take-le _ _ (omega arith)

  pub integer_size : (tok_at t at).kind ≡ k_integer → size_of (drop at t) ≡ 20
  unfolding is_payload is_integer pick
  integer_size e =
      let p : eqb (length (tok_at t at).payload) 8 ≡ true = rw e at wf_good.sound.payload in
      let l = payload_length in
      let q = eqb-true (length (tok_at t at).payload) 8 p in
      omega arith

  pub integer_is : (tok_at t at).kind ≡ k_integer → u64_at t (at + 12) ≡ le_number (tok_at t at).payload
  unfolding token_of le_at
  integer_is e = rw (integer_size e, drop-drop 12 at t)

-- the payload as a part of the table
pub payload_part : (t : Bytes) (at : ℕ) → take (at + u16_at t at - (at + 12)) (drop (at + 12) t) ≡ (tok_at t at).payload
unfolding token_of le_at
payload_part t at = let z : at + u16_at t at - (at + 12) ≡ u16_at t at - 12 = omega arith in rw (z, drop-drop 12 at t)

-- ---- the tokens of a checked table, as a list

pub fit : (n at last row : ℕ) (bs : Bytes) (ts : List Token) → decode_from n at last row bs ≡ tokens ts → Fit n last row ts
fit zero at last row [] ts e = let z = decode_end at last row 0 in let q : [] ≡ ts = cc in rw (← q) none
fit (suc n) at last row [] ts e = let z = decode_end at last row (suc n) in let q : [] ≡ ts = cc in rw (← q) none
fit zero at last row (b ∷ bs) ts e = let o = opened zero at last row (b ∷ bs) ts (omega arith) e in absurd (omega (arith, o.more))
fit (suc n) at last row (b ∷ bs) ts e =
    let o = opened (suc n) at last row (b ∷ bs) ts (omega arith) e in
    rw o.whole (more o.good.sound (fit n _ _ _ (drop (size_of (b ∷ bs)) (b ∷ bs)) o.rest (rw sub-one at o.next)))

pub wf_fit : {t : Bytes} {at : ℕ} (w : Wf t at) → Fit w.left w.last w.row (tokens_from t at)
wf_fit {t} {at} w = fit w.left at w.last w.row (drop at t) (tokens_from t at) w.good

pub fit_length : {n last row : ℕ} {ts : List Token} → Fit n last row ts → length ts ≤ n
fit_length none = omega arith
fit_length (more s f) = let i = fit_length f in omega arith

-- how many LeftSquares the tokens begin with
abbrev pub squares_of : List Token → ℕ
squares_of [] = 0
squares_of (t ∷ ts) = pick (eqb t.kind k_left_square) (squares_of ts + 1) 0

pub fit_squares : {n last row : ℕ} {ts : List Token} → Fit n last row ts → row ≤ 64 → row + squares_of ts ≤ 64
unfolding row_after
fit_squares none h = omega arith
fit_squares (more {row = row} {t} {ts} s f) h = go (eqb t.kind k_left_square) (fit_squares f s.shallow)
  where
    go : (b : Bool) → pick b (row + 1) 0 + squares_of ts ≤ 64 → row + pick b (squares_of ts + 1) 0 ≤ 64
    go true i = unfold pick in omega arith
    go false i = unfold pick in omega arith

pub wf_squares : {t : Bytes} {at : ℕ} → Wf t at → squares_of (tokens_from t at) ≤ 64
wf_squares w = omega (arith, fit_squares (wf_fit w) w.shallow)

pub wf_few : {t : Bytes} {at : ℕ} → Wf t at → length (tokens_from t at) ≤ 4096
wf_few w = omega (arith, fit_length (wf_fit w), w.few)
