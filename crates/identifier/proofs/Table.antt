-- Each table holds over all its entries what its rule gives, by computing them; so at each byte. And each test of a byte is a comparison of its
-- class, by one computed test of all 256.
use mathlib.Core.Path.{◌≡◌, ◌∙◌, refl, sym, ap}
use mathlib.Core.Bool.{Bool, true, ◌||◌, ◌&&◌, not}
use mathlib.Core.List.{List}
use Prim.Native.Nat.{ℕ, zero, suc, ◌+◌, ◌<◌}
use native.Mathlib.Nat.{add-zero, zero-add, add-suc, suc-add, le_of_suc-le-suc, not-suc-le-zero}
use lib.Dec.{ltb, leb, eqb}
use lib.ListN.{get_or}
use Rattle.wire.specs.Pick.{pick}
use Rattle.identifier.specs.Byte.{is_upper, is_letter, is_digit, is_break, is_printable, class_of, lower_of, upper_of}
use Rattle.identifier.specs.Table.{entries, table}
use Rattle.identifier.specs.declared.tables.TheConstants.{CLASS, LOWER, UPPER}

module _ {A : Type 0} (d : A) (f : ℕ → A) where
  entry : (n b k : ℕ) → k < n → get_or (entries f b n) k d ≡ f (b + k)
  entry zero b k h = absurd (not-suc-le-zero h)
  entry (suc n) b zero h = ap f (sym (add-zero b))
  entry (suc n) b (suc k) h = entry n (suc b) k (le_of_suc-le-suc h) ∙ ap f (suc-add b k ∙ sym (add-suc b k))

  pub entry_at : (b : ℕ) → b < 256 → get_or (entries f 0 256) b d ≡ f b
  entry_at b h = entry 256 0 b h ∙ ap f (zero-add b)

pub table_at : (rule : ℕ → ℕ) (b : ℕ) → b < 256 → get_or (table rule) b 0 ≡ rule b
unfolding table
table_at = entry_at 0

-- the rule of each table, over all entries
pub classes : CLASS ≡ table class_of
unfolding table class_of pick
classes = refl

pub lowers : LOWER ≡ table lower_of
unfolding table lower_of pick
lowers = refl

pub uppers : UPPER ≡ table upper_of
unfolding table upper_of pick
uppers = refl

-- what a function reads of them
pub class_at : (b : ℕ) → b < 256 → get_or CLASS b 0 ≡ class_of b
class_at b h = ap (λ (l : List ℕ). get_or l b 0) classes ∙ table_at class_of b h

pub lower_at : (b : ℕ) → b < 256 → get_or LOWER b 0 ≡ lower_of b
lower_at b h = ap (λ (l : List ℕ). get_or l b 0) lowers ∙ table_at lower_of b h

pub upper_at : (b : ℕ) → b < 256 → get_or UPPER b 0 ≡ upper_of b
upper_at b h = ap (λ (l : List ℕ). get_or l b 0) uppers ∙ table_at upper_of b h

-- two tests that agree over all entries agree at each
pub agree : (p q : ℕ → Bool) → entries p 0 256 ≡ entries q 0 256 → (b : ℕ) → b < 256 → p b ≡ q b
agree p q e b h = sym (entry_at true p b h) ∙ ap (λ (l : List Bool). get_or l b true) e ∙ entry_at true q b h

pub class_printable : (b : ℕ) → b < 256 → is_printable b ≡ ltb 0 (class_of b)
unfolding class_of pick
class_printable = agree is_printable (λ b. ltb 0 (class_of b)) refl

-- a byte of a path
pub class_path : (b : ℕ) → b < 256 → (is_printable b && not (eqb b 39)) ≡ leb 2 (class_of b)
unfolding class_of pick
class_path = agree (λ b. is_printable b && not (eqb b 39)) (λ b. leb 2 (class_of b)) refl

pub class_space : (b : ℕ) → b < 256 → eqb b 32 ≡ eqb (class_of b) 2
unfolding class_of pick
class_space = agree (λ b. eqb b 32) (λ b. eqb (class_of b) 2) refl

-- a byte of an identifier, and its first
pub class_name : (b : ℕ) → b < 256 → (is_letter b || (is_digit b || is_break b)) ≡ leb 4 (class_of b)
unfolding class_of pick
class_name = agree (λ b. is_letter b || (is_digit b || is_break b)) (λ b. leb 4 (class_of b)) refl

pub class_start : (b : ℕ) → b < 256 → (is_letter b || eqb b 95) ≡ leb 6 (class_of b)
unfolding class_of pick
class_start = agree (λ b. is_letter b || eqb b 95) (λ b. leb 6 (class_of b)) refl

pub class_upper : (b : ℕ) → b < 256 → is_upper b ≡ eqb (class_of b) 8
unfolding class_of pick
class_upper = agree is_upper (λ b. eqb (class_of b) 8) refl

pub class_break : (b : ℕ) → b < 256 → is_break b ≡ (eqb (class_of b) 4 || eqb (class_of b) 6)
unfolding class_of pick
class_break = agree is_break (λ b. eqb (class_of b) 4 || eqb (class_of b) 6) refl
