-- A name survives printing exactly when every word after the first begins with a letter: where one begins with another byte, the snake case of the
-- Pascal form is shorter than the name's own, and else the two are one.
use mathlib.Core.Path.{◌≡◌, refl, ap, ◌∙◌}
use mathlib.Core.Bool.{Bool, true, false, ◌&&◌}
use mathlib.Core.List.{[], ◌∷◌}
use Prim.Native.Nat.{ℕ, ◌<◌}
use native.Mathlib.Omega.{arith}
use lib.ListN.{length}
use Rattle.wire.specs.Bytes.{Bytes}
use Rattle.identifier.specs.Byte.{is_upper, is_letter, is_break, lower_of, upper_of}
use Rattle.identifier.specs.Name.{all}
use Rattle.identifier.specs.Words.{pieces, unempty, words_of}
use Rattle.identifier.specs.Forms.{low, up, bar_low, later_words, joined, snake_of, pascal_of}
use Rattle.identifier.specs.Left.{in_word}
use Rattle.identifier.specs.Order.{same_name}
use Rattle.identifier.specs.Survive.{begins, later_begin, survives}
use Rattle.identifier.proofs.Bytes.{lower_upper, upper_letter, upper_break, lower_plain}
use Rattle.identifier.proofs.Words.{piece_break, piece_capital, piece_plain, words_break, words_begin, joined_begin, in_break, in_capital, in_plain}
use Rattle.identifier.proofs.Total.{same_snake, snake_same}

data Prints (s n : Bytes) : Bool → Type 0 where
  alike : s ≡ n → Prints s n true
  shorter : length s < length n → Prints s n false

goes_on : (b : ℕ) {l : Bool} {s n : Bytes} → Prints s n l → Prints (b ∷ s) (b ∷ n) l
goes_on b (alike e) = alike (ap (λ (x : Bytes). b ∷ x) e)
goes_on b (shorter h) = shorter (omega arith)

-- a later word has its `_` again where it begins with a letter, and else has lost it
word_begins : (b : ℕ) (letter : Bool) {l : Bool} {s n : Bytes} → Prints s n l
    → Prints (elim letter [ true ↦ 95 ∷ b ∷ s | false ↦ b ∷ s ]) (95 ∷ b ∷ n) (letter && l)
word_begins b true p = goes_on 95 (goes_on b p)
word_begins b false (alike e) = shorter (omega (arith, ap length e))
word_begins b false (shorter h) = shorter (omega arith)

-- the snake case of what is left of the Pascal form, in a word and between words
record Again (bs : Bytes) : Type 0 where
  inside : Prints (in_word bar_low (in_word up bs)) (in_word bar_low bs) (all begins (unempty (pieces bs).later))
  between : Prints (in_word bar_low (later_words up (words_of bs))) (later_words bar_low (words_of bs)) (all begins (words_of bs))

-- a word that begins with the upper form of b
begun : (b : ℕ) (bs : Bytes) → is_break b ≡ false
    → in_word bar_low (upper_of b ∷ bs) ≡ elim (is_letter b) [ true ↦ 95 ∷ lower_of b ∷ in_word bar_low bs | false ↦ lower_of b ∷ in_word bar_low bs ]
begun b bs e = go (is_letter b) refl
  where
    go : (x : Bool) → is_letter b ≡ x
        → in_word bar_low (upper_of b ∷ bs) ≡ elim (is_letter b) [ true ↦ 95 ∷ lower_of b ∷ in_word bar_low bs | false ↦ lower_of b ∷ in_word bar_low bs ]
    go true h = in_capital (upper_of b) bs bar_low (upper_break b e) (upper_letter b ∙ h) ∙ rw (h, lower_upper b)
    go false h = in_plain (upper_of b) bs bar_low (upper_break b e) (upper_letter b ∙ h) ∙ rw (h, lower_upper b)

again : (bs : Bytes) → Again bs
again [] = record { inside = alike refl; between = alike refl }
again (b ∷ bs) = go (is_break b) (is_upper b) refl refl (again bs)
  where
    later : is_break b ≡ false → Again bs
        → Prints (in_word bar_low (upper_of b ∷ in_word up bs)) (95 ∷ lower_of b ∷ in_word bar_low bs) (is_letter b && all begins (unempty (pieces bs).later))
    later e a = rw (begun b (in_word up bs) e) (word_begins (lower_of b) (is_letter b) a.inside)

    go : (x y : Bool) → is_break b ≡ x → is_upper b ≡ y → Again bs → Again (b ∷ bs)
    go true y e h a =
        record {
          inside = rw (in_break b bs up e, in_break b bs bar_low e, piece_break b bs e) a.between;
          between = rw (words_break b bs e) a.between;
        }
    go false true e h a =
        record {
          inside = rw (in_capital b bs up e h, in_capital b bs bar_low e h, piece_capital b bs e h) (later e a);
          between = rw (words_begin b bs e) (later e a);
        }
    go false false e h a =
        record {
          inside = rw (
            in_plain b bs up e h,
            in_plain b bs bar_low e h,
            piece_plain b bs e h,
            lower_plain b h,
            in_plain b (in_word up bs) bar_low e h,
            lower_plain b h,
          ) (goes_on b a.inside);
          between = rw (words_begin b bs e) (later e a);
        }

first : (bs : Bytes) → Prints (joined low bar_low (words_of (joined up up (words_of bs)))) (joined low bar_low (words_of bs)) (later_begin (words_of bs))
first [] = alike refl
first (b ∷ bs) = go (is_break b) refl (first bs)
  where
    go : (x : Bool) → is_break b ≡ x
        → Prints (joined low bar_low (words_of (joined up up (words_of bs)))) (joined low bar_low (words_of bs)) (later_begin (words_of bs))
        → Prints (joined low bar_low (words_of (joined up up (words_of (b ∷ bs))))) (joined low bar_low (words_of (b ∷ bs))) (later_begin (words_of (b ∷ bs)))
    go true e p = rw (words_break b bs e) p
    go false e p =
        rw (
          joined_begin b bs up up e,
          joined_begin b bs bar_low low e,
          words_begin b bs e,
          joined_begin (upper_of b) (in_word up bs) bar_low low (upper_break b e),
          lower_upper b,
        )
        (goes_on (lower_of b) (again bs).inside)

decides : (a b : Bytes) {l : Bool} → Prints (snake_of a) (snake_of b) l → same_name a b ≡ l
decides a b (alike e) = snake_same a b e
decides a b (shorter h) = go (same_name a b) refl
  where
    go : (x : Bool) → same_name a b ≡ x → x ≡ false
    go true e = absurd (omega (arith, ap length (same_snake a b e)))
    go false e = refl

pub survives_exactly : (name : Bytes) → survives name ≡ later_begin (words_of name)
unfolding survives snake_of pascal_of
survives_exactly name = decides (pascal_of name) name (first name)
