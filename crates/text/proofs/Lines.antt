-- The first line of a paragraph and what is left after it, by the place of the space that parts them.
use Prim.Native.Nat.{ℕ, suc, ◌+◌, ◌-◌, ◌≤◌, ◌<◌}
use mathlib.Core.Path.{◌≡◌, refl, sym, ◌∙◌}
use mathlib.Core.Bool.{Bool, true, false}
use mathlib.Core.List.{[], ◌∷◌, ◌++◌, flat_map}
use native.Mathlib.Numerals.{add-one}
use native.Mathlib.Omega.{arith, not-le}
use borrow.Author.Tests.{ne_eqb, eqb-true}
use lib.Dec.{eqb}
use lib.ListN.{length, get_or, take, drop, length-drop, length-take, take-append-drop}
use lib.Seq.{drop-cons, drop-drop, take_all}
use Rattle.std.proofs.lemmas.List.{get_or-drop, get_or-take}
use Rattle.wire.specs.Bytes.{Bytes}
use Rattle.std.specs.Prelude.{Some}
use Rattle.text.specs.Wrap.{words_of, wrap, word_end, LineEnds}
use mathlib.Core.Logic.{inl, inr}
use Rattle.wire.specs.declared.Writer.{Writer}
use Rattle.wire.proofs.Puts.{Rest, rest_all}
use Rattle.text.specs.Text.{line_text, paragraph_text}
use Rattle.text.proofs.Wrap.{IsWord, Fits, wrap-cons, wrap_line}

pub one_word : (s : Bytes) → ((k : ℕ) → k < length s → get_or s k 0 ≡ 32 → ⊥) → IsWord s
one_word [] h = refl
one_word (b ∷ bs) h = rw (ne_eqb b 32 (h 0 (omega arith)), words_of) (one_word bs (λ k i. h (suc k) (omega arith)))

-- a word ends at a space or at the end
first_end : (p : Bytes) → length (words_of p).first < length p → get_or p (length (words_of p).first) 0 ≡ 32
first_end [] h = absurd (omega arith)
first_end (b ∷ bs) h = go (eqb b 32) refl (first_end bs)
  where
    go : (t : Bool) → eqb b 32 ≡ t → (length (words_of bs).first < length bs → get_or bs (length (words_of bs).first) 0 ≡ 32)
        → get_or (b ∷ bs) (length (words_of (b ∷ bs)).first) 0 ≡ 32
    go true e f = rw (e, words_of) (eqb-true b 32 e)
    go false e f =
        let k : suc (length (words_of bs).first) < suc (length bs) = rw (e, words_of) at h in
        rw (e, words_of) (f (omega arith))

-- A line that ends at a space, where no later space lies within the width: the next word doesn't fit.
module _ (width : ℕ) (s : Bytes) (end : ℕ) (long : width < length s) (inside : end < length s) (space : get_or s end 0 ≡ 32)
    (last : (k : ℕ) → end < k → k ≤ width → get_or s k 0 ≡ 32 → ⊥) where
  next_out : width < word_end s (end + 1)
  unfolding word_end
  next_out =
      not-le (word_end s (end + 1)) width
      (λ h. let k : length (words_of (drop (end + 1) s)).first < length (drop (end + 1) s) = omega (arith, length-drop (end + 1) s) in
      last (word_end s (end + 1)) (omega arith) h (sym (get_or-drop (end + 1) s _ 0) ∙ first_end (drop (end + 1) s) k))

  line_break : Fits width (take end s) → wrap width s ≡ take end s ∷ wrap width (drop (end + 1) s)
  unfolding word_end
  line_break f =
      let parts : take end s ++ (32 ∷ drop (end + 1) s) ≡ s = rw (add-one end, ← space, ← drop-cons s end 0 inside) (take-append-drop end s) in
      rw parts at (wrap-cons width (take end s) (drop (end + 1) s) f (omega (arith, next_out, length-take end s)))

-- the last space within the width
pub at_last : (width : ℕ) (s : Bytes) (end : ℕ) → width < length s → end < length (take (width + 1) s) → get_or (take (width + 1) s) end 0 ≡ 32
    → ((k : ℕ) → end + 1 ≤ k → k < length (take (width + 1) s) → get_or (take (width + 1) s) k 0 ≡ 32 → ⊥)
    → LineEnds width s (Some end)
at_last width s end long h e none =
    let l : length (take (width + 1) s) ≡ width + 1 = omega (arith, length-take (width + 1) s) in
    let i : end < length s = omega arith in
    let j : end < width + 1 = omega arith in
    let last : (k : ℕ) → end < k → k ≤ width → get_or s k 0 ≡ 32 → ⊥ =
    λ k a b f. let m : k < width + 1 = omega arith in none k (omega arith) (omega arith) (get_or-take (width + 1) s k 0 m ∙ f) in
    (i, line_break width s end long i (sym (get_or-take (width + 1) s end 0 j) ∙ e) last (inl (omega (arith, length-take end s))))

-- no space within the width, and the first one past it
pub at_first : (width : ℕ) (s : Bytes) (end : ℕ) → width < length s → end < length s → get_or s end 0 ≡ 32
    → ((k : ℕ) → k < end → get_or s k 0 ≡ 32 → ⊥) → ((k : ℕ) → k < length (take (width + 1) s) → get_or (take (width + 1) s) k 0 ≡ 32 → ⊥)
    → LineEnds width s (Some end)
at_first width s end long i e before none =
    let l : length (take (width + 1) s) ≡ width + 1 = omega (arith, length-take (width + 1) s) in
    let within : (k : ℕ) → k ≤ width → get_or s k 0 ≡ 32 → ⊥ =
    λ k b f. let m : k < width + 1 = omega arith in none k (omega arith) (get_or-take (width + 1) s k 0 m ∙ f) in (
      i,
      line_break width s end long i e (λ k a b f. within k b f)
          (inr (one_word (take end s) (λ k h f. let m : k < end = omega (arith, length-take end s) in before k m (sym (get_or-take end s k 0 m) ∙ f)))),
    )

-- no space at all
pub one_word_line : (width : ℕ) (s : Bytes) → ((k : ℕ) → k < length s → get_or s k 0 ≡ 32 → ⊥) → wrap width s ≡ s ∷ []
one_word_line width s none = wrap_line width s (inr (one_word s none))

-- what is left to write: all lines, then those after the first, or the last
pub lines_begin : (indentation : Bytes) (width : ℕ) (s : Bytes) {w : Writer} → width ≡ 77 - length indentation
    → Rest w (flat_map (line_text indentation) (wrap width s)) w (paragraph_text indentation s)
unfolding paragraph_text
lines_begin indentation width s e = rw e rest_all

pub lines_more : (indentation : Bytes) (width : ℕ) (s : Bytes) (end : ℕ) {line left : Bytes} → wrap width s ≡ take end s ∷ wrap width (drop (end + 1) s)
    → line ≡ take end s → left ≡ drop end s
    → flat_map (line_text indentation) (wrap width s)
    ≡ line_text indentation line ++ flat_map (line_text indentation) (wrap width (take (length left - 1) (drop 1 left)))
unfolding flat_map
lines_more indentation width s end {left = left} e p q =
    rw (e, p, take_all (length left - 1) (drop 1 left) (omega (arith, length-drop 1 left)), q, drop-drop 1 end s)

pub lines_last : (indentation : Bytes) (width : ℕ) (s : Bytes) → wrap width s ≡ s ∷ []
    → flat_map (line_text indentation) (wrap width s) ≡ line_text indentation s ++ []
unfolding flat_map
lines_last indentation width s e = rw e
