-- How long a form is: at most two bytes for each byte of the name, less one.
use mathlib.Core.Path.{◌≡◌, refl}
use mathlib.Core.Bool.{Bool, true, false, and-eq-true_iff}
use mathlib.Core.List.{[], ◌∷◌}
use Prim.Native.Nat.{ℕ, ◌*◌, ◌-◌, ◌≤◌}
use native.Mathlib.Omega.{arith}
use lib.ListN.{length, length-append}
use Rattle.wire.specs.Bytes.{Bytes}
use Rattle.identifier.specs.Byte.{is_upper, is_break}
use Rattle.identifier.specs.Name.{all}
use Rattle.identifier.specs.Words.{words_of}
use Rattle.identifier.specs.Forms.{low, up, bar_low, joined, later_words, snake_of, camel_of, pascal_of}
use Rattle.identifier.specs.Left.{in_word, form_of}
use Rattle.identifier.specs.declared.form_bytes.Case.{Case}
use Rattle.identifier.specs.declared.form_bytes.Case.TheVariants.{Snake, Camel, Pascal}
use Rattle.identifier.proofs.Bytes.{upper_no_break}
use Rattle.identifier.proofs.Words.{words_break, joined_begin, later_begin_lem, in_break, in_capital, in_plain}

module _ (g : ℕ → Bytes) (few : (b : ℕ) → length (g b) ≤ 2) where
  record Short (bs : Bytes) : Type 0 where
    inside : length (in_word g bs) ≤ 2 * length bs
    between : length (later_words g (words_of bs)) ≤ 2 * length bs

  short : (bs : Bytes) → Short bs
  short [] = record { inside = omega arith; between = omega arith }
  short (b ∷ bs) = go (is_break b) (is_upper b) refl refl (short bs)
    where
      go : (x y : Bool) → is_break b ≡ x → is_upper b ≡ y → Short bs → Short (b ∷ bs)
      go true y e h s = record { inside = rw (in_break b bs g e) (omega (arith, s.between)); between = rw (words_break b bs e) (omega (arith, s.between)) }
      go false true e h s =
          record {
            inside = rw (in_capital b bs g e h) (rw length-append (omega (arith, s.inside, few b)));
            between = rw (later_begin_lem b bs g e) (rw length-append (omega (arith, s.inside, few b)));
          }
      go false false e h s =
          record {
            inside = rw (in_plain b bs g e h) (omega (arith, s.inside));
            between = rw (later_begin_lem b bs g e) (rw length-append (omega (arith, s.inside, few b)));
          }

  pub form_short : (f : ℕ → Bytes) → ((b : ℕ) → length (f b) ≤ 1) → (bs : Bytes) → length (joined f g (words_of bs)) ≤ 2 * length bs - 1
  form_short f one [] = omega arith
  form_short f one (b ∷ bs) = go (is_break b) refl (form_short f one bs)
    where
      go : (x : Bool) → is_break b ≡ x → length (joined f g (words_of bs)) ≤ 2 * length bs - 1
          → length (joined f g (words_of (b ∷ bs))) ≤ 2 * length (b ∷ bs) - 1
      go true e k = rw (words_break b bs e) (omega arith)
      go false e k = rw (joined_begin b bs g f e) (rw length-append (omega (arith, (short bs).inside, one b)))

pub case_short : (case : Case) (name : Bytes) → length (form_of case name) ≤ 2 * length name - 1
case_short Snake = form_short bar_low (λ b. omega arith) low (λ b. omega arith)
case_short Camel = form_short up (λ b. omega arith) low (λ b. omega arith)
case_short Pascal = form_short up (λ b. omega arith) up (λ b. omega arith)

-- what a caller cites, who has no name for a case
pub snake_short : (name : Bytes) → length (snake_of name) ≤ 2 * length name - 1
unfolding snake_of
snake_short = case_short Snake

pub camel_short : (name : Bytes) → length (camel_of name) ≤ 2 * length name - 1
unfolding camel_of
camel_short = case_short Camel

pub pascal_short : (name : Bytes) → length (pascal_of name) ≤ 2 * length name - 1
unfolding pascal_of
pascal_short = case_short Pascal

-- a name of capitals: each begins a word
in_capitals : (bs : Bytes) → all is_upper bs ≡ true → length (in_word bar_low bs) ≡ 2 * length bs
in_capitals [] e = refl
in_capitals (b ∷ bs) e =
    let i = (and-eq-true_iff (is_upper b) (all is_upper bs)).0 e in
    rw (in_capital b bs bar_low (upper_no_break b i.0) i.0) (omega (arith, in_capitals bs i.1))

pub capitals_long : (name : Bytes) → all is_upper name ≡ true → length (snake_of name) ≡ 2 * length name - 1
unfolding snake_of
capitals_long [] e = refl
capitals_long (b ∷ bs) e =
    let i = (and-eq-true_iff (is_upper b) (all is_upper bs)).0 e in
    rw (joined_begin b bs bar_low low (upper_no_break b i.0)) (omega (arith, in_capitals bs i.1))
