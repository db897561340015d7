-- Document 01, "Canonical text": paragraphs wrap at a width, each line taking as many whole words as fit; a longer word stands alone.
use Rattle.std.specs.Prelude.{ℕ, ◌+◌, ◌<◌, ◌≡◌, true, false, List, [], ◌∷◌, ◌++◌, eqb, leb, length, take, drop, Option, MatchOption}
use Rattle.wire.specs.Bytes.{Bytes}

-- what stands before the first space, and what stands between the later ones
pub record Words : Type 0 where
  pub first : Bytes
  pub later : List Bytes

abbrev pub words_of : Bytes → Words
words_of [] = record { first = []; later = [] }
words_of (b ∷ bs) =
    elim (eqb b 32) [
      | true ↦ record { first = []; later = (words_of bs).first ∷ (words_of bs).later }
      | false ↦ record { first = b ∷ (words_of bs).first; later = (words_of bs).later }
    ]

-- the lines, of which the first begins with `line`: it takes the next word where that fits, and else the word begins the next line
abbrev pub lines_from : ℕ → Bytes → List Bytes → List Bytes
lines_from width line [] = line ∷ []
lines_from width line (word ∷ words) =
    elim (leb (length line + 1 + length word) width) [
      | true ↦ lines_from width (line ++ (32 ∷ word)) words
      | false ↦ line ∷ lines_from width word words
    ]

unfoldable pub wrap : ℕ → Bytes → List Bytes
wrap width paragraph = lines_from width (words_of paragraph).first (words_of paragraph).later

-- where the word ends that begins at i
unfoldable pub word_end : Bytes → ℕ → ℕ
word_end s i = i + length (words_of (drop i s)).first

-- the place of the space that parts the first line from the others, where there are any
abbrev pub LineEnds : ℕ → Bytes → Option ℕ → Type 0
LineEnds width s r = MatchOption r (wrap width s ≡ s ∷ []) (λ end. (end < length s) × (wrap width s ≡ take end s ∷ wrap width (drop (end + 1) s)))
