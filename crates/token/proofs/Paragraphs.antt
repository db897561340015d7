-- A Comment's payload and its paragraphs determine each other.
use borrow.Author.Tests.{leb-true, le-leb}
use Prim.Native.Nat.{ℕ, zero, suc, ◌+◌, ◌*◌, ◌-◌, ◌≤◌, ◌<◌}
use mathlib.Core.Path.{◌≡◌, refl, sym, ◌∙◌}
use mathlib.Core.Bool.{true, ◌&&◌, and-eq-true_iff}
use mathlib.Core.List.{List, [], ◌∷◌, ◌++◌, append_assoc}
use native.Mathlib.Omega.{arith}
use native.Mathlib.Nat.{zero-add, add-zero}
use native.Mathlib.Numerals.{sub-one}
use lib.Dec.{leb}
use lib.ListN.{length, take, drop, take-append-drop, length-drop, length-append}
use lib.Seq.{length-take-le, take_at, drop_at}
use Rattle.wire.specs.Bytes.{Bytes}
use Rattle.wire.specs.Le.{le_bytes, le_number, le_at, u16_at}
use Rattle.wire.proofs.Numbers.{AllBytes, le_bytes-length, le_bytes-le_number, le_at-le_bytes}
use Rattle.token.specs.Payload.{at_least, is_spaced, is_paragraph, paragraph_of, after_paragraph, are_paragraphs}
use Rattle.token.specs.Split.{SplitsSized}
use Rattle.token.specs.Payload.{is_comment, paragraphs_in, paragraphs_of, paragraph_bytes, all_paragraphs}
use Rattle.token.proofs.Laws.{at_least-length, paragraphs_none, paragraphs_step}

pub all_take : (n : ℕ) (bs : Bytes) → AllBytes bs → AllBytes (take n bs)
all_take zero bs h = tt
all_take (suc n) [] h = tt
all_take (suc n) (b ∷ bs) h = (h.0, all_take n bs h.1)

pub all_drop : (n : ℕ) (bs : Bytes) → AllBytes bs → AllBytes (drop n bs)
all_drop zero bs h = h
all_drop (suc n) [] h = tt
all_drop (suc n) (b ∷ bs) h = all_drop n bs h.1

-- the bytes of the number in the first k bytes are these bytes
pub le_again : (k : ℕ) (bs : Bytes) → AllBytes bs → k ≤ length bs → le_bytes k (le_number (take k bs)) ≡ take k bs
le_again k bs h l = rw (length-take-le k bs l) at (le_bytes-le_number (take k bs) (all_take k bs h))

-- of at most n paragraphs, the first lies whole in these bytes
pub record Page (n : ℕ) (bs : Bytes) : Type 0 where
  pub some : n ≡ 0 → ⊥
  pub head : 2 ≤ length bs
  pub tail : 2 + u16_at bs 0 ≤ length bs
  pub first : is_paragraph (paragraph_of bs) ≡ true
  pub rest : are_paragraphs (n - 1) (after_paragraph bs) ≡ true

pub page : (n : ℕ) (bs : Bytes) → 0 < length bs → are_paragraphs n bs ≡ true → Page n bs
unfolding are_paragraphs
page n [] h e = absurd (omega arith)
page zero (b ∷ bs) h e = let z : ◌≡◌ {A = ℕ} 0 1 = cc in absurd (omega arith)
page (suc n) (b ∷ bs) h e =
    let x = b ∷ bs in
    let p = (and-eq-true_iff (at_least 2 x) _).0 e in
    let q = (and-eq-true_iff (at_least (2 + u16_at x 0) x) _).0 p.1 in
    let r = (and-eq-true_iff (is_paragraph (paragraph_of x)) _).0 q.1 in
    record {
      some = λ z. omega arith;
      head = leb-true 2 (length x) (sym (at_least-length 2 x) ∙ p.0);
      tail = leb-true (2 + u16_at x 0) (length x) (sym (at_least-length (2 + u16_at x 0) x) ∙ q.0);
      first = r.0;
      rest = rw sub-one r.1;
    }

paragraph_length : {n : ℕ} {bs : Bytes} → Page n bs → length (paragraph_of bs) ≡ u16_at bs 0
unfolding paragraph_of
paragraph_length {n} {bs} g = let l = length-drop 2 bs in length-take-le (u16_at bs 0) (drop 2 bs) (omega (arith, g.tail))

page_bytes : {n : ℕ} {bs : Bytes} → AllBytes bs → Page n bs → le_bytes 2 (length (paragraph_of bs)) ++ paragraph_of bs ++ after_paragraph bs ≡ bs
unfolding paragraph_of after_paragraph le_at
page_bytes {n} {bs} h g =
    rw (paragraph_length g, le_again 2 bs h g.head, append_assoc, take-append-drop (u16_at bs 0) (drop 2 bs), take-append-drop 2 bs)

-- whole paragraphs are the bytes of the paragraphs in them
pub paragraphs_again : (n : ℕ) (bs : Bytes) → AllBytes bs → are_paragraphs n bs ≡ true → paragraph_bytes (paragraphs_in n bs) ≡ bs
unfolding paragraph_bytes are_paragraphs after_paragraph
paragraphs_again zero [] h e = refl
paragraphs_again (suc n) [] h e = refl
paragraphs_again zero (b ∷ bs) h e = let z : ◌≡◌ {A = ℕ} 0 1 = cc in absurd (omega arith)
paragraphs_again (suc n) (b ∷ bs) h e =
    let g = page (suc n) (b ∷ bs) (omega arith) e in
    let i = paragraphs_again n (after_paragraph (b ∷ bs)) (all_drop (u16_at (b ∷ bs) 0) (drop 2 (b ∷ bs)) (all_drop 2 (b ∷ bs) h)) (rw sub-one at g.rest) in
    rw i (page_bytes h g)

in_none : (n : ℕ) → paragraphs_in n [] ≡ []
in_none zero = refl
in_none (suc n) = refl

in_step : (n : ℕ) (bs : Bytes) → (n ≡ 0 → ⊥) → 0 < length bs → paragraphs_in n bs ≡ paragraph_of bs ∷ paragraphs_in (n - 1) (after_paragraph bs)
in_step zero bs m h = absurd (m refl)
in_step (suc n) [] m h = absurd (omega arith)
in_step (suc n) (b ∷ bs) m h = rw sub-one

-- paragraphs are found in their bytes
module _ (p rest : Bytes) (h : length p < 65536) where
  pub page_size : u16_at (le_bytes 2 (length p) ++ p ++ rest) 0 ≡ length p
  page_size = rw append_assoc (le_at-le_bytes 2 (length p) [] (p ++ rest) 0 refl h)

  pub page_first : paragraph_of (le_bytes 2 (length p) ++ p ++ rest) ≡ p
  unfolding paragraph_of
  page_first = rw (page_size, append_assoc, drop_at (le_bytes 2 (length p)) (p ++ rest) 2 (le_bytes-length 2 (length p)), take_at p rest (length p) refl)

  pub page_after : after_paragraph (le_bytes 2 (length p) ++ p ++ rest) ≡ rest
  unfolding after_paragraph
  page_after = rw (page_size, append_assoc, drop_at (le_bytes 2 (length p)) (p ++ rest) 2 (le_bytes-length 2 (length p)), drop_at p rest (length p) refl)

  pub page_length : length (le_bytes 2 (length p) ++ p ++ rest) ≡ 2 + length p + length rest
  page_length = rw (length-append, length-append, le_bytes-length)

  page_are : (n : ℕ) → are_paragraphs (suc n) (le_bytes 2 (length p) ++ p ++ rest) ≡ (is_paragraph p && are_paragraphs n rest)
  page_are n =
      let x = le_bytes 2 (length p) ++ p ++ rest in
      let l = page_length in
      let a : at_least 2 x ≡ true = at_least-length 2 x ∙ le-leb 2 (length x) (omega arith) in
      let b : at_least (2 + length p) x ≡ true = at_least-length (2 + length p) x ∙ le-leb (2 + length p) (length x) (omega arith) in
      paragraphs_step (suc n) x (λ z. omega arith) (omega arith) ∙ rw (page_size, a, b, page_first, page_after, sub-one)

  page_in : (n : ℕ) → paragraphs_in (suc n) (le_bytes 2 (length p) ++ p ++ rest) ≡ p ∷ paragraphs_in n rest
  page_in n = let l = page_length in in_step (suc n) (le_bytes 2 (length p) ++ p ++ rest) (λ z. omega arith) (omega arith) ∙ rw (page_first, page_after, sub-one)

pub paragraph_small : (p : Bytes) → is_paragraph p ≡ true → length p ≤ 1024
unfolding is_paragraph
paragraph_small p e =
    let q = (and-eq-true_iff (leb 1 (length p) && leb (length p) 1024) (is_spaced true p)).0 e in
    leb-true (length p) 1024 ((and-eq-true_iff (leb 1 (length p)) (leb (length p) 1024)).0 q.0).1

pub paragraphs_found : (n : ℕ) (ps : List Bytes) → length ps ≤ n → all_paragraphs ps ≡ true
    → (are_paragraphs n (paragraph_bytes ps) ≡ true) × (paragraphs_in n (paragraph_bytes ps) ≡ ps)
unfolding paragraph_bytes
paragraphs_found zero [] l e = (paragraphs_none 0, refl)
paragraphs_found (suc n) [] l e = (paragraphs_none (suc n), refl)
paragraphs_found zero (p ∷ ps) l e = absurd (omega arith)
paragraphs_found (suc n) (p ∷ ps) l e =
    let q = (and-eq-true_iff (is_paragraph p) (all_paragraphs ps)).0 e in
    let k : length p < 65536 = omega (arith, paragraph_small p q.0) in
    let i = paragraphs_found n ps (omega arith) q.1 in
    (page_are p (paragraph_bytes ps) k n ∙ rw (q.0, i.0), page_in p (paragraph_bytes ps) k n ∙ rw i.1)

pub paragraphs_small : (n : ℕ) (bs : Bytes) → are_paragraphs n bs ≡ true → length bs ≤ n * 1026
unfolding are_paragraphs paragraph_of after_paragraph
paragraphs_small zero [] e = omega arith
paragraphs_small (suc n) [] e = omega arith
paragraphs_small zero (b ∷ bs) e = let z : ◌≡◌ {A = ℕ} 0 1 = cc in absurd (omega arith)
paragraphs_small (suc n) (b ∷ bs) e =
    let g = page (suc n) (b ∷ bs) (omega arith) e in
    let i = paragraphs_small n (after_paragraph (b ∷ bs)) (rw sub-one at g.rest) in
    let k = paragraph_length g in
    let s = paragraph_small (paragraph_of (b ∷ bs)) g.first in
    let d = length-drop (u16_at (b ∷ bs) 0) (drop 2 (b ∷ bs)) in
    let d' = length-drop 2 (b ∷ bs) in
    omega arith

-- the paragraphs of whole paragraphs are good, and at most n
pub paragraphs_good : (n : ℕ) (bs : Bytes) → are_paragraphs n bs ≡ true → (all_paragraphs (paragraphs_in n bs) ≡ true) × (length (paragraphs_in n bs) ≤ n)
unfolding are_paragraphs
paragraphs_good zero [] e = (refl, omega arith)
paragraphs_good (suc n) [] e = (refl, omega arith)
paragraphs_good zero (b ∷ bs) e = let z : ◌≡◌ {A = ℕ} 0 1 = cc in absurd (omega arith)
paragraphs_good (suc n) (b ∷ bs) e =
    let g = page (suc n) (b ∷ bs) (omega arith) e in
    let i = paragraphs_good n (after_paragraph (b ∷ bs)) (rw sub-one at g.rest) in
    (rw (g.first, i.0), omega (arith, i.1))

-- ---- a Comment

pub comment_again : (p : Bytes) → AllBytes p → is_comment p ≡ true → paragraph_bytes (paragraphs_of p) ≡ p
unfolding is_comment paragraphs_of
comment_again p h e = paragraphs_again 32 p h ((and-eq-true_iff (leb 1 (length p)) (are_paragraphs 32 p)).0 e).1

pub comment_found : (ps : List Bytes) → 0 < length ps → length ps ≤ 32 → all_paragraphs ps ≡ true
    → (is_comment (paragraph_bytes ps) ≡ true) × (paragraphs_of (paragraph_bytes ps) ≡ ps)
unfolding is_comment paragraphs_of paragraph_bytes
comment_found [] z l e = absurd (omega arith)
comment_found (p ∷ ps) z l e =
    let f = paragraphs_found 32 (p ∷ ps) l e in
    let k : 1 ≤ length (paragraph_bytes (p ∷ ps)) = simp (length-append, le_bytes-length) (omega arith) in
    (rw (le-leb 1 (length (paragraph_bytes (p ∷ ps))) k, f.0), f.1)

-- a loop that counts the paragraphs of p has `rest` left, after `count` of them
pub record Counting (p : Bytes) (count : ℕ) (rest : Bytes) : Type 0 where
  pub few : count ≤ 32
  pub whole : are_paragraphs (32 - count) rest ≡ true
  pub left : count + length (paragraphs_in (32 - count) rest) ≡ length (paragraphs_of p)

pub counting : (p : Bytes) → is_comment p ≡ true → Counting p 0 p
unfolding is_comment paragraphs_of
counting p e = record { few = omega arith; whole = ((and-eq-true_iff (leb 1 (length p)) (are_paragraphs 32 p)).0 e).1; left = zero-add _ }

module _ {p : Bytes} {count : ℕ} {bs : Bytes} (s : Counting p count bs) where
  pub counted_all : length bs < 2 + u16_at bs 0 → count ≡ length (paragraphs_of p)
  counted_all h = go bs s h
    where
      go : (bs : Bytes) → Counting p count bs → length bs < 2 + u16_at bs 0 → count ≡ length (paragraphs_of p)
      go [] s h = rw (in_none (32 - count), add-zero) at s.left
      go (b ∷ bs) s h = absurd (omega (arith, (page (32 - count) (b ∷ bs) (omega arith) s.whole).tail))

  module _ {part rest : Bytes} (f : SplitsSized bs part rest) where
    some : 0 < length bs
    some = omega (arith, f.inside)

    first : Page (32 - count) bs
    first = page (32 - count) bs some s.whole

    pub counted_few : count < 32
    counted_few = omega (arith, s.few, first.some)

    pub counted_next : Counting p (count + 1) rest
    counted_next =
        let n : 32 - (count + 1) ≡ 32 - count - 1 = omega arith in
        let e = rw (in_step (32 - count) bs first.some some) at s.left in
        record { few = omega (arith, counted_few); whole = rw (n, f.later) first.rest; left = rw (n, f.later) (omega (arith, e)) }

    pub counted_less : length rest < length bs
    unfolding after_paragraph
    counted_less = let d = length-drop (u16_at bs 0) (drop 2 bs) in let e = length-drop 2 bs in rw f.later (omega (arith, f.inside))
