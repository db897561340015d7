-- The words of a name, a byte at a time: a break is passed over, any other byte begins or goes on with a word.
use mathlib.Core.Path.{◌≡◌, refl, ap, ◌∙◌}
use mathlib.Core.Bool.{Bool, true, false}
use mathlib.Core.List.{List, [], ◌∷◌, ◌++◌, append_assoc}
use Prim.Native.Nat.{ℕ}
use Rattle.wire.specs.Bytes.{Bytes}
use Rattle.identifier.specs.Byte.{is_upper, is_break, lower_of}
use Rattle.identifier.specs.Words.{Pieces, after_byte, pieces, unempty, words_of}
use Rattle.identifier.specs.Forms.{later_words, joined}
use Rattle.identifier.specs.Left.{in_word}
use Rattle.identifier.specs.Join.{join_of}

pub piece_break : (b : ℕ) (bs : Bytes) → is_break b ≡ true → pieces (b ∷ bs) ≡ record { first = []; later = (pieces bs).first ∷ (pieces bs).later }
piece_break b bs e = rw (e, after_byte)

pub piece_capital : (b : ℕ) (bs : Bytes) → is_break b ≡ false → is_upper b ≡ true
    → pieces (b ∷ bs) ≡ record { first = []; later = (b ∷ (pieces bs).first) ∷ (pieces bs).later }
piece_capital b bs e h = rw (e, h, after_byte)

pub piece_plain : (b : ℕ) (bs : Bytes) → is_break b ≡ false → is_upper b ≡ false
    → pieces (b ∷ bs) ≡ record { first = b ∷ (pieces bs).first; later = (pieces bs).later }
piece_plain b bs e h = rw (e, h, after_byte)

pub words_break : (b : ℕ) (bs : Bytes) → is_break b ≡ true → words_of (b ∷ bs) ≡ words_of bs
words_break b bs e = rw (piece_break b bs e)

pub words_begin : (b : ℕ) (bs : Bytes) → is_break b ≡ false → words_of (b ∷ bs) ≡ (b ∷ (pieces bs).first) ∷ unempty (pieces bs).later
words_begin b bs e = go (is_upper b) refl
  where
    go : (x : Bool) → is_upper b ≡ x → words_of (b ∷ bs) ≡ (b ∷ (pieces bs).first) ∷ unempty (pieces bs).later
    go true h = rw (piece_capital b bs e h)
    go false h = rw (piece_plain b bs e h)

-- what a form becomes of them
module _ (b : ℕ) (bs : Bytes) (g : ℕ → Bytes) where
  pub joined_begin : (f : ℕ → Bytes) → is_break b ≡ false → joined f g (words_of (b ∷ bs)) ≡ f b ++ in_word g bs
  joined_begin f e = rw (words_begin b bs e) (append_assoc (f b) _ _)

  pub later_begin_lem : is_break b ≡ false → later_words g (words_of (b ∷ bs)) ≡ g b ++ in_word g bs
  later_begin_lem e = rw (words_begin b bs e) (append_assoc (g b) _ _)

  pub in_break : is_break b ≡ true → in_word g (b ∷ bs) ≡ later_words g (words_of bs)
  in_break e = rw (piece_break b bs e)

  pub in_capital : is_break b ≡ false → is_upper b ≡ true → in_word g (b ∷ bs) ≡ g b ++ in_word g bs
  in_capital e h = rw (piece_capital b bs e h) (append_assoc (g b) _ _)

  pub in_plain : is_break b ≡ false → is_upper b ≡ false → in_word g (b ∷ bs) ≡ lower_of b ∷ in_word g bs
  in_plain e h = rw (piece_plain b bs e h)

-- a joined name's words are the words of the two
unempty-append : (xs ys : List Bytes) → unempty (xs ++ ys) ≡ unempty xs ++ unempty ys
unempty-append [] ys = refl
unempty-append ([] ∷ xs) ys = unempty-append xs ys
unempty-append ((b ∷ w) ∷ xs) ys = ap (λ (l : List Bytes). (b ∷ w) ∷ l) (unempty-append xs ys)

abbrev and_then : Pieces → List Bytes → Pieces
and_then p ws = record { first = p.first; later = p.later ++ ws }

after_join : (b : ℕ) (p : Pieces) (ws : List Bytes) → after_byte b (and_then p ws) ≡ and_then (after_byte b p) ws
after_join b p ws = go (is_break b) (is_upper b) refl refl
  where
    go : (x y : Bool) → is_break b ≡ x → is_upper b ≡ y → after_byte b (and_then p ws) ≡ and_then (after_byte b p) ws
    go true y e f = rw (e, after_byte)
    go false true e f = rw (e, f, after_byte)
    go false false e f = rw (e, f, after_byte)

pieces_join : (a b : Bytes) → pieces (a ++ 95 ∷ b) ≡ and_then (pieces a) ((pieces b).first ∷ (pieces b).later)
pieces_join [] b = refl
pieces_join (x ∷ a) b = ap (after_byte x) (pieces_join a b) ∙ after_join x (pieces a) ((pieces b).first ∷ (pieces b).later)

pub words_join : (a b : Bytes) → words_of (join_of a b) ≡ words_of a ++ words_of b
unfolding join_of
words_join a b = rw (pieces_join a b) (unempty-append ((pieces a).first ∷ (pieces a).later) ((pieces b).first ∷ (pieces b).later))
