-- Document 01, "Names": the snake, camel and Pascal forms of a name, from its words. A name of no words, as `_`, has empty forms.
use Rattle.std.specs.Prelude.{◌≡◌, ℕ, ◌-◌, ◌≤◌, List, [], ◌∷◌, ◌++◌, map, length, replicate}
use Rattle.wire.specs.Bytes.{Bytes}
use Rattle.identifier.specs.Byte.{lower_of, upper_of}
use Rattle.identifier.specs.Words.{words_of}

-- what a word's first byte becomes
abbrev pub low : ℕ → Bytes
low b = lower_of b ∷ []

abbrev pub up : ℕ → Bytes
up b = upper_of b ∷ []

abbrev pub bar_low : ℕ → Bytes
bar_low b = 95 ∷ lower_of b ∷ []

-- a word whose first byte becomes what f says; the others in lowercase
abbrev pub written : (ℕ → Bytes) → Bytes → Bytes
written f [] = []
written f (b ∷ w) = f b ++ map lower_of w

abbrev pub later_words : (ℕ → Bytes) → List Bytes → Bytes
later_words g [] = []
later_words g (w ∷ ws) = written g w ++ later_words g ws

-- the first word begins as f says, each later word as g says
abbrev pub joined : (ℕ → Bytes) → (ℕ → Bytes) → List Bytes → Bytes
joined f g [] = []
joined f g (w ∷ ws) = written f w ++ later_words g ws

-- lowercase words joined by `_`
unfoldable pub snake_of : Bytes → Bytes
snake_of name = joined low bar_low (words_of name)

-- the first word lowercase, the others capitalised on their first byte
unfoldable pub camel_of : Bytes → Bytes
camel_of name = joined low up (words_of name)

-- all words capitalised
unfoldable pub pascal_of : Bytes → Bytes
pascal_of name = joined up up (words_of name)

-- a form as it is held: filled up to its length, zeros behind, and always room for it
pub record IsForm (bytes : Bytes) (len : ℕ) (form : Bytes) : Type 0 where
  pub size : len ≡ length form
  pub filled : bytes ≡ form ++ replicate (256 - length form) 0
  pub fits : len ≤ 255
