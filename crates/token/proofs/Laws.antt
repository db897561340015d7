-- The payload rules, byte by byte and paragraph by paragraph.
use borrow.Author.Tests.{le-leb, lt-leb}
use Prim.Native.Nat.{ℕ, zero, suc, ◌+◌, ◌-◌, ◌≤◌, ◌<◌}
use mathlib.Core.Path.{◌≡◌, refl, sym, ap, ◌∙◌}
use mathlib.Core.Bool.{Bool, true, false, not, ◌&&◌}
use mathlib.Core.List.{[], ◌∷◌}
use native.Mathlib.Omega.{arith}
use native.Mathlib.Numerals.{add-one, sub-one}
use lib.Dec.{leb, ltb, eqb, leb-zero, leb-suc-zero, leb-suc-suc}
use lib.ListN.{length, get_or, take, drop, drop_of_length-le, length-drop}
use lib.Seq.{drop-cons, drop-drop, take_all}
use Rattle.wire.specs.Bytes.{Bytes}
use Rattle.wire.specs.Le.{le_at, u16_at}
use Rattle.wire.proofs.Choice.{and_second}
use Rattle.identifier.specs.Byte.{is_printable, class_of}
use Rattle.identifier.specs.Name.{all}
use denote.Ref.{Bor}
use Rattle.std.specs.Prelude.{Option, None, Some, MatchOption}
use Rattle.std.specs.List.{list_all, IsSplitAt}
use Rattle.std.proofs.lemmas.List.{nil_from_length}
use Rattle.identifier.proofs.Table.{class_space, class_printable}
use Rattle.token.specs.Split.{SplitsSized}
use Rattle.token.specs.Payload.{at_least, is_spaced, is_paragraph, paragraph_of, after_paragraph, are_paragraphs}

pub at_least-length : (n : ℕ) (bs : Bytes) → at_least n bs ≡ leb n (length bs)
at_least-length zero bs = sym (leb-zero (length bs))
at_least-length (suc n) [] = sym (leb-suc-zero n)
at_least-length (suc n) (b ∷ bs) = at_least-length n bs ∙ sym (leb-suc-suc n (length bs))

pub rest_step : (p : Bytes) (i : ℕ) → i < length p → drop i p ≡ get_or p i 0 ∷ drop (i + 1) p
rest_step p i h = rw (add-one, drop-cons p i 0 h)

-- std's word for the same
pub all_is : (f : ℕ → Bool) (p : Bytes) → all f p ≡ list_all f p
all_is f [] = refl
all_is f (b ∷ bs) = ap (f b &&◌) (all_is f bs)

and_again : (a x y z : Bool) → ((a && (x && y)) && z) ≡ (a && (x && (y && z)))
and_again false x y z = refl
and_again true false y z = refl
and_again true true y z = refl

-- a loop over a paragraph stands at i, after a space or the start where `gap`; what it passed was `good`
pub record Spacing (p : Bytes) (gap good : Bool) (i : ℕ) (r : Bool) : Type 0 where
  pub inside : i ≤ length p
  pub left : (good && is_spaced gap (drop i p)) ≡ r

module _ {p : Bytes} {gap good : Bool} {i : ℕ} {r : Bool} (s : Spacing p gap good i r) where
  pub spaced : i < length p → get_or p i 0 < 256 → {k : ℕ} → k ≡ class_of (get_or p i 0) → Spacing p (eqb k 2) (good && (ltb 0 k && not (gap && eqb k 2))) (i + 1) r
  spaced h small {k} e = record {
    inside = omega (arith, h);
    left =
        rw (e, ← class_space (get_or p i 0) small, ← class_printable (get_or p i 0) small) (and_again good (is_printable (get_or p i 0)) _ _)
        ∙ rw (rest_step p i h) at s.left;
  }

  pub spaced_end : length p ≤ i → (good && not gap) ≡ r
  spaced_end h = rw (drop_of_length-le p h) at s.left

pub paragraphs_none : (n : ℕ) → are_paragraphs n [] ≡ true
unfolding are_paragraphs
paragraphs_none zero = refl
paragraphs_none (suc n) = refl

pub paragraphs_step : (n : ℕ) (bs : Bytes) → (n ≡ 0 → ⊥) → 0 < length bs
    → are_paragraphs n bs ≡ (at_least 2 bs && (at_least (2 + u16_at bs 0) bs && (is_paragraph (paragraph_of bs) && are_paragraphs (n - 1) (after_paragraph bs))))
unfolding are_paragraphs
paragraphs_step zero bs e h = absurd (e refl)
paragraphs_step (suc n) [] e h = absurd (omega arith)
paragraphs_step (suc n) (b ∷ bs) e h = rw sub-one

-- a loop over a comment's paragraphs stands at `at`, where at most n more may come
pub record Paging (p : Bytes) (n at : ℕ) (r : Bool) : Type 0 where
  pub inside : at ≤ length p
  pub left : are_paragraphs n (drop at p) ≡ r

-- the end of the paragraph at a place
abbrev pub page_end : Bytes → ℕ → ℕ
page_end p at = at + 2 + u16_at p at

module _ {p : Bytes} {n at : ℕ} {r : Bool} (s : Paging p n at r) where
  pub paged_out : at < length p → n ≡ 0 → false ≡ r
  unfolding are_paragraphs
  paged_out h e = rw (rest_step p at h, e) at s.left

  pub paged_step : at < length p → (n ≡ 0 → ⊥)
      → r ≡ (leb 2 (length p - at)
      && (leb (2 + u16_at p at) (length p - at)
      && (is_paragraph (take (page_end p at - (at + 2)) (drop (at + 2) p)) && are_paragraphs (n - 1) (drop (page_end p at) p))))
  unfolding paragraph_of after_paragraph le_at
  paged_step h e =
      let l : 0 < length (drop at p) = rw length-drop (omega arith) in
      let z : page_end p at - (at + 2) ≡ u16_at p at = omega arith in
      sym s.left ∙ paragraphs_step n (drop at p) e l
      ∙ rw (at_least-length 2 (drop at p), at_least-length (2 + u16_at p at) (drop at p), length-drop at p, drop-drop 2 at p, drop-drop (u16_at p at) (at + 2) p, z)

  pub paged_end : length p ≤ at → true ≡ r
  paged_end h = sym (paragraphs_none n) ∙ rw (drop_of_length-le p h) at s.left

-- the part `&p[at..]`
pub part_from : (p : Bytes) (at : ℕ) → take (length p - at) (drop at p) ≡ drop at p
part_from p at = take_all (length p - at) (drop at p) (rw length-drop (omega arith))

-- the part that a length comes before, split off what follows the length
pub sized_split : (p : Bytes) → 2 ≤ length p → (o : Option (Bor Bytes × Bor Bytes))
    → MatchOption o (length (drop 2 p) < u16_at p 0) (λ s. IsSplitAt (drop 2 p) (u16_at p 0) s.0.now s.1.now)
    → MatchOption o (length p < 2 + u16_at p 0) (λ s. SplitsSized p s.0.now s.1.now)
unfolding paragraph_of after_paragraph
sized_split p l None h = let d = length-drop 2 p in omega arith
sized_split p l (Some s) h =
    let d = length-drop 2 p in
    let i = h.0 in
    let n : 2 + u16_at p 0 ≤ length p = omega arith in
    record { inside = n; first = h.1; long = h.3; later = h.2 }

pub paragraphs_split : {n : ℕ} {bs part rest : Bytes} → SplitsSized bs part rest → (n ≡ 0 → ⊥)
    → are_paragraphs n bs ≡ (is_paragraph part && are_paragraphs (n - 1) rest)
paragraphs_split {n} {bs} s m =
    let l = s.inside in
    let a : at_least 2 bs ≡ true = at_least-length 2 bs ∙ le-leb 2 (length bs) (omega arith) in
    let b : at_least (2 + u16_at bs 0) bs ≡ true = at_least-length (2 + u16_at bs 0) bs ∙ le-leb (2 + u16_at bs 0) (length bs) l in
    paragraphs_step n bs m (omega arith) ∙ rw (a, b, s.first, s.later)

-- what is left of a comment is one of at most n paragraphs, if r
pub record Turning (n : ℕ) (rest : Bytes) (r : Bool) : Type 0 where
  pub left : (leb 1 (length rest) && are_paragraphs n rest) ≡ r

pub turned_out : {rest : Bytes} {r : Bool} → Turning 0 rest r → false ≡ r
unfolding are_paragraphs
turned_out {rest = []} s = s.left
turned_out {rest = b ∷ bs} s = rw (le-leb 1 (length (b ∷ bs)) (omega arith)) at s.left

module _ {n : ℕ} {bs : Bytes} {r : Bool} (s : Turning n bs r) (m : n ≡ 0 → ⊥) where
  pub turned_short : length bs < 2 + u16_at bs 0 → false ≡ r
  turned_short h = go bs s h
    where
      go : (bs : Bytes) → Turning n bs r → length bs < 2 + u16_at bs 0 → false ≡ r
      go [] s h = s.left
      go (b ∷ bs) s h =
          let e : at_least (2 + u16_at (b ∷ bs) 0) (b ∷ bs) ≡ false = at_least-length _ (b ∷ bs) ∙ lt-leb _ _ h in
          sym (and_second _ _ (and_second _ _ refl)) ∙ rw (paragraphs_step n (b ∷ bs) m (omega arith), e) at s.left

  module _ {part rest : Bytes} (p : SplitsSized bs part rest) where
    some : leb 1 (length bs) ≡ true
    some = le-leb 1 (length bs) (omega (arith, p.inside))

    pub turned_wrong : is_paragraph part ≡ false → false ≡ r
    turned_wrong e = rw (some, paragraphs_split p m, e) at s.left

    pub turned_last : is_paragraph part ≡ true → length rest ≡ 0 → true ≡ r
    turned_last e z = rw (some, paragraphs_split p m, e, nil_from_length rest z, paragraphs_none (n - 1)) at s.left

    pub turned_next : is_paragraph part ≡ true → 1 ≤ length rest → Turning (n - 1) rest r
    turned_next e z = record { left = rw (le-leb 1 (length rest) z) (rw (some, paragraphs_split p m, e) at s.left) }
