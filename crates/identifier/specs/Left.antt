-- What is left to write of a form at a place in its name, byte by byte. The state says what is written: no word, the first bytes of a word, a word
-- that a break has ended, or the `_` before a later word.
use Rattle.std.specs.Prelude.{[], ◌++◌, map, ℕ, take}
use Rattle.std.specs.List.{fold}
use Rattle.wire.specs.Bytes.{Bytes}
use Rattle.wire.specs.Pick.{pick}
use Rattle.identifier.specs.Byte.{is_break, is_upper, lower_of}
use Rattle.identifier.specs.Words.{pieces, unempty, words_of}
use Rattle.identifier.specs.Forms.{low, up, bar_low, later_words, joined}
use Rattle.identifier.specs.declared.form_bytes.Case.{Case}
use Rattle.identifier.specs.declared.form_bytes.Case.TheVariants.{Snake, Camel, Pascal}
use Rattle.identifier.specs.declared.form_bytes.State.{State}
use Rattle.identifier.specs.declared.form_bytes.State.TheVariants.{Before, Inside, Between, Barred}
use Rattle.identifier.specs.declared.form_bytes.FormBytes.{FormBytes}

-- how the first word begins, and how each later one does
abbrev pub first_by : Case → ℕ → Bytes
first_by Snake = low
first_by Camel = low
first_by Pascal = up

abbrev pub later_by : Case → ℕ → Bytes
later_by Snake = bar_low
later_by Camel = up
later_by Pascal = up

-- a name's form
abbrev pub form_of : Case → Bytes → Bytes
form_of case name = joined (first_by case) (later_by case) (words_of name)

-- the rest of a word and the later words
abbrev pub in_word : (ℕ → Bytes) → Bytes → Bytes
in_word g bs = map lower_of (pieces bs).first ++ later_words g (unempty (pieces bs).later)

abbrev pub left_of : (ℕ → Bytes) → (ℕ → Bytes) → State → Bytes → Bytes
left_of f g Before bs = joined f g (words_of bs)
left_of f g Inside bs = in_word g bs
left_of f g Between bs = later_words g (words_of bs)
left_of f g Barred bs = joined low g (words_of bs)

-- What a byte of the name adds to the form, and the state after it. Between words a `_` and the byte after it are added together.
abbrev pub word_added : Case → State → ℕ → Bytes
word_added case Before b = first_by case b
word_added case Inside b = pick (is_upper b) (later_by case b) (low b)
word_added case Between b = later_by case b
word_added case Barred b = low b

unfoldable pub added : Case → State → ℕ → Bytes
added case state b = pick (is_break b) [] (word_added case state b)

abbrev pub after_break : State → State
after_break Before = Before
after_break Inside = Between
after_break Between = Between
after_break Barred = Barred

unfoldable pub state_after : State → ℕ → State
state_after state b = pick (is_break b) (after_break state) Inside

-- the state at a place of a name
abbrev pub state_to : Bytes → ℕ → State
state_to name at = fold state_after Before (take at name)

-- what is left of a form where this is left of its bytes
abbrev pub form_left : FormBytes → Bytes
form_left s = left_of (first_by s.case) (later_by s.case) s.state s.rest.now
