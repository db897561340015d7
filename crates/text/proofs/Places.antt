-- Where a word ends, and what stands after it.
use Prim.Native.Nat.{ℕ, suc, ◌+◌, ◌-◌, ◌≤◌, ◌<◌}
use mathlib.Core.Path.{◌≡◌, refl, sym, ap, ◌∙◌}
use mathlib.Core.Bool.{Bool, true, false}
use mathlib.Core.List.{List, [], ◌∷◌}
use native.Mathlib.Nat.{add-zero}
use native.Mathlib.Numerals.{add-one}
use native.Mathlib.Omega.{arith}
use borrow.Author.Tests.{ne_eqb, eqb-true}
use lib.Dec.{eqb}
use lib.ListN.{length, get_or, take, drop, length-drop, length-take, drop_of_length-le}
use lib.Seq.{drop-cons, drop-drop}
use Rattle.wire.specs.Bytes.{Bytes}
use Rattle.text.specs.Wrap.{words_of, word_end}

-- the search for the end of a word
pub end_here : (s : Bytes) (j : ℕ) → j < length s → get_or s j 0 ≡ 32 → word_end s j ≡ j
unfolding word_end
end_here s j h e = rw (drop-cons s j 0 h, e) (add-zero j)

pub end_later : (s : Bytes) (j : ℕ) → j < length s → (get_or s j 0 ≡ 32 → ⊥) → word_end s j ≡ word_end s (j + 1)
unfolding word_end
end_later s j h e = rw (add-one j, drop-cons s j 0 h, ne_eqb (get_or s j 0) 32 e, words_of) (omega arith)

pub end_past : (s : Bytes) (j : ℕ) → length s ≤ j → word_end s j ≡ j
unfolding word_end
end_past s j h = rw (drop_of_length-le s h) (add-zero j)

-- the words after a word's end, and that a space stands there
abbrev words_after : Bytes → List Bytes
words_after [] = []
words_after (b ∷ bs) = (words_of bs).first ∷ (words_of bs).later

abbrev AtSpace : Bytes → Type 0
AtSpace [] = Unit {0}
AtSpace (b ∷ bs) = b ≡ 32

-- a word ends here
pub record Ends (s : Bytes) (end : ℕ) : Type 0 where
  pub within : end ≤ length s
  pub space : AtSpace (drop end s)

-- the first word is a part of the paragraph; a space or nothing stands after it, and then the later words
record FirstWord (p : Bytes) : Type 0 where
  word : (words_of p).first ≡ take (length (words_of p).first) p
  space : AtSpace (drop (length (words_of p).first) p)
  later : (words_of p).later ≡ words_after (drop (length (words_of p).first) p)

first_word : (p : Bytes) → FirstWord p
first_word [] = record { word = refl; space = tt; later = refl }
first_word (b ∷ bs) = go (eqb b 32) refl (first_word bs)
  where
    go : (t : Bool) → eqb b 32 ≡ t → FirstWord bs → FirstWord (b ∷ bs)
    go true e f = record { word = rw (e, words_of); space = rw (e, words_of) (eqb-true b 32 e); later = rw (e, words_of) }
    go false e f = record {
      word = rw (e, words_of) (ap (λ (w : Bytes). b ∷ w) f.word);
      space = rw (e, words_of) f.space;
      later = rw (e, words_of) f.later;
    }

pub ends : (s : Bytes) (i : ℕ) → i ≤ length s → Ends s (word_end s i)
unfolding word_end
ends s i h =
    let f = first_word (drop i s) in
    let n = length (words_of (drop i s)).first in
    let l : n ≤ length (drop i s) = omega (arith, ap length f.word ∙ length-take n (drop i s)) in
    record { within = omega (arith, length-drop i s); space = rw drop-drop at f.space }

-- the word that begins at i, and the words after it
word_at : (s : Bytes) (i : ℕ) → take (word_end s i - i) (drop i s) ≡ (words_of (drop i s)).first
unfolding word_end
word_at s i =
    let n = length (words_of (drop i s)).first in
    let k : i + n - i ≡ n = omega arith in
    rw k (sym (first_word (drop i s)).word)

words_after_lem : (s : Bytes) (i : ℕ) → words_after (drop (word_end s i) s) ≡ (words_of (drop i s)).later
unfolding word_end
words_after_lem s i = rw (← drop-drop (length (words_of (drop i s)).first) i s) (sym (first_word (drop i s)).later)

next_word : (s : Bytes) (end : ℕ) → Ends s end → end < length s → drop end s ≡ 32 ∷ drop (end + 1) s
next_word s end e h =
    let c : drop end s ≡ get_or s end 0 ∷ drop (suc end) s = drop-cons s end 0 h in
    let f : get_or s end 0 ≡ 32 = rw c at e.space in
    rw (add-one end) (c ∙ rw f)

-- the end of the next word lies after this one's
pub next_end : (s : Bytes) {end end' : ℕ} → end < length s → end' ≡ word_end s (end + 1) → (end < end') × (end' ≤ length s)
unfolding word_end
next_end s {end} h e = (omega arith, omega (arith, (ends s (end + 1) (omega arith)).within))
