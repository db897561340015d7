-- What is left of a form, a byte of the name at a time: what the byte adds, and what is left after it.
use mathlib.Core.Path.{◌≡◌, refl}
use mathlib.Core.Bool.{Bool, true, false}
use mathlib.Core.List.{[], ◌∷◌, ◌++◌}
use Prim.Native.Nat.{ℕ, suc, ◌+◌, ◌<◌, ◌≤◌}
use native.Mathlib.Numerals.{add-one}
use lib.ListN.{length, get_or, drop, drop_of_length-le}
use lib.Seq.{drop-cons}
use Rattle.wire.specs.Bytes.{Bytes}
use Rattle.wire.specs.Pick.{pick}
use Rattle.identifier.specs.Byte.{is_upper, is_plain, is_break}
use Rattle.identifier.specs.Forms.{low}
use Rattle.identifier.specs.Left.{first_by, later_by, left_of, word_added, added, after_break, state_after}
use Rattle.identifier.specs.declared.form_bytes.Case.{Case}
use Rattle.identifier.specs.declared.form_bytes.Case.TheVariants.{Snake}
use Rattle.identifier.specs.declared.form_bytes.State.{State}
use Rattle.identifier.specs.declared.form_bytes.State.TheVariants.{Before, Inside, Between, Barred}
use Rattle.identifier.proofs.Bytes.{plain_is, lower_plain}
use Rattle.identifier.proofs.Words.{words_break, joined_begin, later_begin_lem, in_break, in_capital, in_plain}

-- after a break a word has ended
module _ (f g : ℕ → Bytes) (b : ℕ) (bs : Bytes) (e : is_break b ≡ true) where
  passed : (s : State) → left_of f g s (b ∷ bs) ≡ left_of f g (after_break s) bs
  passed Before = rw (words_break b bs e)
  passed Inside = in_break b bs g e
  passed Between = rw (words_break b bs e)
  passed Barred = rw (words_break b bs e)

  pub left_break : (s : State) → left_of f g s (b ∷ bs) ≡ left_of f g (state_after s b) bs
  unfolding state_after pick
  left_break s = rw e (passed s)

-- where the name ends nothing is left
pub left_none : (f g : ℕ → Bytes) (s : State) → left_of f g s [] ≡ []
left_none f g Before = refl
left_none f g Inside = refl
left_none f g Between = refl
left_none f g Barred = refl

abbrev pub left_in : Case → State → Bytes → Bytes
left_in case = left_of (first_by case) (later_by case)

-- what is left of a form is what the next byte adds, and what is left after it
module _ (case : Case) (b : ℕ) (bs : Bytes) where
  word : is_break b ≡ false → (s : State) → left_in case s (b ∷ bs) ≡ word_added case s b ++ left_in case Inside bs
  unfolding pick
  word e Before = joined_begin b bs (later_by case) (first_by case) e
  word e Inside = go (is_upper b) refl
    where
      go : (k : Bool) → is_upper b ≡ k
          → left_in case Inside (b ∷ bs) ≡ pick (is_upper b) (later_by case b) (low b) ++ left_in case Inside bs
      go true k = rw k (in_capital b bs (later_by case) e k)
      go false k = rw k (in_plain b bs (later_by case) e k)
  word e Between = later_begin_lem b bs (later_by case) e
  word e Barred = joined_begin b bs (later_by case) low e

  pub left_added : (s : State) → left_in case s (b ∷ bs) ≡ added case s b ++ left_in case (state_after s b) bs
  unfolding added state_after pick
  left_added s = go (is_break b) refl
    where
      go : (k : Bool) → is_break b ≡ k
          → left_in case s (b ∷ bs) ≡ added case s b ++ left_in case (state_after s b) bs
      go true e = rw e (passed (first_by case) (later_by case) b bs e s)
      go false e = rw e (word e s)

-- the same at a place of a name
module _ (case : Case) (s : State) (name : Bytes) {at : ℕ} (h : at < length name) where
  pub left_past : is_break (get_or name at 0) ≡ true → left_in case s (drop at name) ≡ left_in case (state_after s (get_or name at 0)) (drop (at + 1) name)
  left_past e = rw (add-one, drop-cons name at 0 h) (left_break (first_by case) (later_by case) (get_or name at 0) (drop (suc at) name) e s)

  pub left_word : is_break (get_or name at 0) ≡ false
      → left_in case s (drop at name) ≡ word_added case s (get_or name at 0) ++ left_in case Inside (drop (at + 1) name)
  left_word e = rw (add-one, drop-cons name at 0 h) (word case (get_or name at 0) (drop (suc at) name) e s)

pub left_end : (case : Case) (s : State) (name : Bytes) {at : ℕ} → length name ≤ at → left_in case s (drop at name) ≡ []
left_end case s name h = rw (drop_of_length-le name h) (left_none (first_by case) (later_by case) s)

-- a small letter or a digit stands in a snake form as it is, behind `_` where a later word begins
abbrev pub lead : State → Bytes
lead Before = []
lead Inside = []
lead Between = 95 ∷ []
lead Barred = []

pub added_itself : (s : State) (b : ℕ) → is_plain b ≡ true → added Snake s b ≡ lead s ++ (b ∷ [])
unfolding added pick
added_itself Before b e = let p = plain_is b e in rw (p.0, lower_plain b p.1)
added_itself Inside b e = let p = plain_is b e in rw (p.0, p.1, lower_plain b p.1)
added_itself Between b e = let p = plain_is b e in rw (p.0, lower_plain b p.1)
added_itself Barred b e = let p = plain_is b e in rw (p.0, lower_plain b p.1)
