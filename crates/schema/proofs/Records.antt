-- The records of a table, one after the other: at the front of its bytes, and as they were written.
use mathlib.Core.Path.{◌≡◌, refl, ◌∙◌}
use mathlib.Core.Bool.{true, false, and-eq-true_iff}
use mathlib.Core.List.{List, [], ◌∷◌}
use Prim.Native.Nat.{ℕ, zero, suc, ◌-◌, ◌≤◌, ◌<◌}
use native.Mathlib.Numerals.{sub-one}
use native.Mathlib.Omega.{arith}
use borrow.Author.Tests.{le-leb}
use lib.ListN.{length, drop}
use Rattle.wire.specs.Bytes.{Bytes}
use Rattle.token.specs.Token.{Token}
use Rattle.token.specs.Table.{size_of, token_of, is_whole, encode_tokens}
use Rattle.token.proofs.Records.{fits, whole_is}
use Rattle.token.proofs.Encode.{Narrow, first_token, first_rest, first_whole}
pub use Rattle.token.proofs.Records.{Fits as Whole}
use Rattle.schema.specs.Table.{records_after, records_of, is_framed_after, is_framed}

pub is_whole_lem : (bs : Bytes) → Whole bs → is_whole bs ≡ true
is_whole_lem bs w =
    let h = w.head in
    let t = w.tail in
    whole_is bs ∙ rw (le-leb 12 (length bs) (omega arith), le-leb 12 (size_of bs) h, le-leb (size_of bs) (length bs) t)

-- bytes that are still to come are dropped
records_after_lem : (left : ℕ) (bs : Bytes) → records_after left bs ≡ records_of (drop left bs)
unfolding records_of
records_after_lem zero [] = refl
records_after_lem (suc left) [] = refl
records_after_lem zero (b ∷ bs) = refl
records_after_lem (suc left) (b ∷ bs) = records_after_lem left bs

framed_after : (left : ℕ) (bs : Bytes) → left ≤ length bs → is_framed_after left bs ≡ is_framed (drop left bs)
unfolding is_framed
framed_after zero bs h = refl
framed_after (suc left) [] h = absurd (omega arith)
framed_after (suc left) (b ∷ bs) h = framed_after left bs (omega arith)

drop-suc : (n : ℕ) (b : ℕ) (bs : Bytes) → 0 < n → drop n (b ∷ bs) ≡ drop (n - 1) bs
drop-suc zero b bs h = absurd (omega arith)
drop-suc (suc n) b bs h = rw sub-one

-- at the front stands a whole record, and then the others
pub records_step : (bs : Bytes) → Whole bs → records_of bs ≡ token_of bs ∷ records_of (drop (size_of bs) bs)
records_step [] w = absurd (omega arith)
records_step (b ∷ bs) w = let h = w.head in
    rw (drop-suc (size_of (b ∷ bs)) b bs (omega arith)) (unfold records_of in rw (records_after_lem (size_of (b ∷ bs) - 1) bs))

pub framed_step : (bs : Bytes) → Whole bs → is_framed bs ≡ is_framed (drop (size_of bs) bs)
framed_step [] w = absurd (omega arith)
framed_step (b ∷ bs) w =
    let h = w.head in
    let t = w.tail in
    rw (drop-suc (size_of (b ∷ bs)) b bs (omega arith)) (unfold is_framed in rw (is_whole_lem (b ∷ bs) w, framed_after (size_of (b ∷ bs) - 1) bs (omega arith)))

pub framed_whole : (bs : Bytes) → 0 < length bs → is_framed bs ≡ true → Whole bs
unfolding is_framed
framed_whole [] h e = absurd (omega arith)
framed_whole (b ∷ bs) h e = fits (b ∷ bs) ((and-eq-true_iff (is_whole (b ∷ bs)) _).0 e).0

pub framed_not : (bs : Bytes) → 0 < length bs → is_whole bs ≡ false → is_framed bs ≡ false
unfolding is_framed
framed_not [] h e = absurd (omega arith)
framed_not (b ∷ bs) h e = rw e

-- tokens whose numbers their records can hold
abbrev pub AllFit : List Token → Type 0
AllFit [] = Unit {0}
AllFit (r ∷ rs) = Narrow r × AllFit rs

pub records_encode : (rs : List Token) → AllFit rs → records_of (encode_tokens rs) ≡ rs
unfolding encode_tokens
records_encode [] f = unfold records_of in refl
records_encode (r ∷ rs) f =
    let rest = encode_tokens rs in
    let w = fits _ (first_whole r rest f.0) in
    rw (records_step _ w, first_token r rest f.0, first_rest r rest f.0, records_encode rs f.1)

pub framed_encode : (rs : List Token) → AllFit rs → is_framed (encode_tokens rs) ≡ true
unfolding encode_tokens
framed_encode [] f = unfold is_framed in refl
framed_encode (r ∷ rs) f =
    let rest = encode_tokens rs in
    let w = fits _ (first_whole r rest f.0) in
    rw (framed_step _ w, first_rest r rest f.0, framed_encode rs f.1)
