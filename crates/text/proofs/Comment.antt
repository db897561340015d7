-- A comment written paragraph by paragraph: what the loop of `put_comment` keeps, of the paragraphs that are left.
use Prim.Native.Nat.{ℕ, zero, suc, ◌-◌, ◌≤◌, ◌<◌}
use mathlib.Core.Path.{◌≡◌, refl, sym}
use mathlib.Core.Bool.{true, false}
use mathlib.Core.List.{[], ◌∷◌, append_assoc}
use native.Mathlib.Numerals.{sub-one}
use native.Mathlib.Omega.{arith}
use borrow.Author.Tests.{eqb-true, eqb-false, lt-ltb, le-ltb}
use lib.Dec.{eqb, ltb}
use lib.ListN.{length, take, drop, length-drop, drop_of_length-le}
use Rattle.std.proofs.lemmas.List.{take_rest}
use Rattle.wire.specs.Bytes.{Bytes}
use Rattle.wire.specs.Le.{u16_at}
use Rattle.wire.specs.Puts.{Puts}
use Rattle.wire.specs.declared.Writer.{Writer}
use Rattle.wire.proofs.Puts.{puts_none, then, Rest, rest_all, rest_step, rest_none}
use Rattle.token.specs.Payload.{paragraph_of, after_paragraph, are_paragraphs, paragraphs_in, paragraphs_of}
use Rattle.token.proofs.Paragraphs.{Page, page}
use Rattle.schema.specs.Decode.{comment_of}
use Rattle.text.specs.Text.{paragraph_text, paragraphs_text, comment_text, mark}

-- at most `few` paragraphs are left, and they come later than another where they aren't all
pub record Commenting (w₀ : Writer) (indentation ps : Bytes) (w : Writer) (rest : Bytes) : Type 0 where
  pub few : ℕ
  pub right : are_paragraphs few rest ≡ true
  pub inside : length rest ≤ length ps
  pub left : Rest w (paragraphs_text indentation (ltb (length rest) (length ps)) (paragraphs_in few rest)) w₀ (comment_text indentation (paragraphs_of ps))

pub commenting_begin : {w : Writer} {indentation : Bytes} (ps : Bytes) → are_paragraphs 32 ps ≡ true → Commenting w indentation ps w ps
unfolding paragraphs_of
commenting_begin ps e =
    let l : length ps ≤ length ps = omega arith in
    record { few = 32; right = e; inside = l; left = rw (le-ltb _ _ l) rest_all }

paragraphs_next : (n : ℕ) (bs : Bytes) → (n ≡ 0 → ⊥) → 0 < length bs → paragraphs_in n bs ≡ paragraph_of bs ∷ paragraphs_in (n - 1) (after_paragraph bs)
paragraphs_next zero bs e h = absurd (e refl)
paragraphs_next (suc n) [] e h = absurd (omega arith)
paragraphs_next (suc n) (b ∷ bs) e h = rw sub-one

module _ {w₀ : Writer} {indentation ps : Bytes} {w : Writer} {rest : Bytes} (g : Commenting w₀ indentation ps w rest) where
  pub commenting_page : false ≡ eqb (length rest) 0 → Page g.few rest
  commenting_page e = page g.few rest (omega (arith, eqb-false (length rest) 0 (sym e))) g.right

  pub commenting_more : {m : Writer} {w' : Writer} {paragraph after : Bytes} {size : ℕ} → false ≡ eqb (length rest) 0 → size ≡ u16_at rest 0
      → Puts w (mark indentation (ltb (length rest) (length ps))) m → Puts m (paragraph_text indentation paragraph) w'
      → paragraph ≡ take size (take (length rest - 2) (drop 2 rest)) → after ≡ drop size (take (length rest - 2) (drop 2 rest))
      → Commenting w₀ indentation ps w' after
  unfolding paragraph_of after_paragraph
  commenting_more e s v p q r =
      let x = commenting_page e in
      let l : length (after_paragraph rest) < length ps = omega (arith, x, g.inside, length-drop (u16_at rest 0) (drop 2 rest), length-drop 2 rest) in
      rw (r, s, take_rest rest 2)
      (record {
        few = g.few - 1;
        right = x.rest;
        inside = omega arith;
        left =
            rest_step (then v (rw (q, s, take_rest rest 2) at p)) g.left
            (rw (paragraphs_next g.few rest x.some (omega (arith, x)), lt-ltb _ _ l, append_assoc));
      })

  pub commenting_done : true ≡ eqb (length rest) 0 → Puts w₀ (comment_text indentation (paragraphs_of ps)) w
  commenting_done e =
      let h : length rest ≤ 0 = omega (arith, eqb-true (length rest) 0 (sym e)) in
      rest_none g.left (rw (none rest h g.few))
    where
      none : (bs : Bytes) → length bs ≤ 0 → (n : ℕ) → paragraphs_text indentation (ltb (length bs) (length ps)) (paragraphs_in n bs) ≡ []
      none (b ∷ bs) h n = absurd (omega arith)
      none [] h zero = refl
      none [] h (suc n) = refl

-- a count and nothing after it
pub no_comment : (indentation p : Bytes) {w : Writer} → length p ≤ 2 → Puts w (comment_text indentation (comment_of p)) w
unfolding paragraphs_of
no_comment indentation p h = rw (drop_of_length-le p h) puts_none
