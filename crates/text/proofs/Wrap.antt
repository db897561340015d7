-- What wrapping does, and that nothing else does it: the lines joined by spaces are the paragraph, none is longer than the width unless it is a
-- single word, none could take the next word, and only these lines are so. All of this holds of any bytes as a paragraph.
use Prim.Native.Nat.{ℕ, suc, ◌+◌, ◌≤◌, ◌<◌}
use mathlib.Core.Path.{◌≡◌, refl, sym, ap, ◌∙◌}
use mathlib.Core.Bool.{Bool, true, false}
use mathlib.Core.List.{List, [], ◌∷◌, ◌++◌, append-nil, append_assoc}
use mathlib.Core.Logic.{◌⊎◌, inl, inr}
use native.Mathlib.Omega.{arith}
use borrow.Author.Tests.{leb-true, leb-false, eqb-true, le-leb, lt-leb}
use lib.Dec.{eqb, leb}
use lib.ListN.{length, drop, length-append}
use Rattle.wire.specs.Bytes.{Bytes}
use Rattle.text.specs.Wrap.{words_of, lines_from, wrap}

-- each after a space
abbrev spaced : List Bytes → Bytes
spaced [] = []
spaced (l ∷ ls) = (32 ∷ l) ++ spaced ls

-- joined by spaces
abbrev pub joined : List Bytes → Bytes
joined ls = drop 1 (spaced ls)

abbrev pub Each : (Bytes → Type 0) → List Bytes → Type 0
Each P [] = Unit {0}
Each P (l ∷ ls) = P l × Each P ls

-- without a space
abbrev pub IsWord : Bytes → Type 0
IsWord l = (words_of l).later ≡ []

abbrev pub Fits : ℕ → Bytes → Type 0
Fits width l = (length l ≤ width) ⊎ IsWord l

-- the first word of the next line doesn't fit on this one
abbrev Parted : ℕ → Bytes → List Bytes → Type 0
Parted width l [] = Unit {0}
Parted width l (m ∷ ls) = width < length l + 1 + length (words_of m).first

abbrev pub Greedy : ℕ → List Bytes → Type 0
Greedy width [] = Unit {0}
Greedy width (l ∷ ls) = Parted width l ls × Greedy width ls

-- a line takes the next word where that fits, and else the word begins the next line
pub line_takes : (width : ℕ) (line word : Bytes) (words : List Bytes) → length line + 1 + length word ≤ width
    → lines_from width line (word ∷ words) ≡ lines_from width (line ++ (32 ∷ word)) words
line_takes width line word words h = rw (le-leb (length line + 1 + length word) width h, lines_from)

pub line_leaves : (width : ℕ) (line word : Bytes) (words : List Bytes) → width < length line + 1 + length word
    → lines_from width line (word ∷ words) ≡ line ∷ lines_from width word words
line_leaves width line word words h = rw (lt-leb (length line + 1 + length word) width h, lines_from)

-- so what both keep holds of the lines
pub lines_keep : (width : ℕ) (P : Bytes → List Bytes → List Bytes → Type 0)
    → ((line : Bytes) → P line [] (line ∷ []))
    → ((line word : Bytes) (words ls : List Bytes) → length line + 1 + length word ≤ width → P (line ++ (32 ∷ word)) words ls → P line (word ∷ words) ls)
    → ((line word : Bytes) (words ls : List Bytes) → width < length line + 1 + length word → P word words ls → P line (word ∷ words) (line ∷ ls))
    → (words : List Bytes) (line : Bytes)
    → P line words (lines_from width line words)
lines_keep width P last take leave [] line = last line
lines_keep width P last take leave (word ∷ words) line =
    go (leb (length line + 1 + length word) width) refl (lines_keep width P last take leave words (line ++ (32 ∷ word)))
    (lines_keep width P last take leave words word)
  where
    go : (b : Bool) → leb (length line + 1 + length word) width ≡ b
        → P (line ++ (32 ∷ word)) words (lines_from width (line ++ (32 ∷ word)) words)
        → P word words (lines_from width word words)
        → P line (word ∷ words) (lines_from width line (word ∷ words))
    go true e p q = rw (line_takes width line word words (leb-true _ _ e)) (take line word words _ (leb-true _ _ e) p)
    go false e p q = rw (line_leaves width line word words (leb-false _ _ e)) (leave line word words _ (leb-false _ _ e) q)

-- the words joined by spaces are the paragraph, and none has a space
words_joined : (p : Bytes) → (words_of p).first ++ spaced (words_of p).later ≡ p
words_joined [] = refl
words_joined (b ∷ bs) = go (eqb b 32) refl (words_joined bs)
  where
    go : (t : Bool) → eqb b 32 ≡ t → (words_of bs).first ++ spaced (words_of bs).later ≡ bs → (words_of (b ∷ bs)).first ++ spaced (words_of (b ∷ bs)).later ≡ b ∷ bs
    go true e h = rw (e, words_of, h, eqb-true b 32 e)
    go false e h = rw (e, words_of, h)

are_words : (p : Bytes) → IsWord (words_of p).first × Each IsWord (words_of p).later
are_words [] = (refl, tt)
are_words (b ∷ bs) = go (eqb b 32) refl (are_words bs)
  where
    go : (t : Bool) → eqb b 32 ≡ t → IsWord (words_of bs).first × Each IsWord (words_of bs).later
        → IsWord (words_of (b ∷ bs)).first × Each IsWord (words_of (b ∷ bs)).later
    go true e h = rw (e, words_of) (refl, h)
    go false e h = rw (e, words_of) (rw (e, words_of) h.0, h.1)

word_first : (l : Bytes) → IsWord l → (words_of l).first ≡ l
word_first l e = sym (append-nil _) ∙ rw e at (words_joined l)

-- the words of two texts parted by a space
first_append : (l m : Bytes) → (words_of (l ++ (32 ∷ m))).first ≡ (words_of l).first
first_append [] m = refl
first_append (b ∷ l) m = go (eqb b 32) refl (first_append l m)
  where
    go : (t : Bool) → eqb b 32 ≡ t → (words_of (l ++ (32 ∷ m))).first ≡ (words_of l).first → (words_of ((b ∷ l) ++ (32 ∷ m))).first ≡ (words_of (b ∷ l)).first
    go true e h = rw (e, words_of)
    go false e h = rw (e, words_of, h)

later_append : (l m : Bytes) → (words_of (l ++ (32 ∷ m))).later ≡ (words_of l).later ++ ((words_of m).first ∷ (words_of m).later)
later_append [] m = refl
later_append (b ∷ l) m = go (eqb b 32) refl (later_append l m)
  where
    go : (t : Bool) → eqb b 32 ≡ t → (words_of (l ++ (32 ∷ m))).later ≡ (words_of l).later ++ ((words_of m).first ∷ (words_of m).later)
        → (words_of ((b ∷ l) ++ (32 ∷ m))).later ≡ (words_of (b ∷ l)).later ++ ((words_of m).first ∷ (words_of m).later)
    go true e h = rw (e, words_of, h, first_append l m)
    go false e h = rw (e, words_of, h)

-- the lines begin with this word
abbrev Begins : Bytes → List Bytes → Type 0
Begins word [] = ⊥
Begins word (l ∷ ls) = (words_of l).first ≡ word

parted : {width : ℕ} (line word : Bytes) (ls : List Bytes) → Begins word ls → width < length line + 1 + length word → Parted width line ls
parted line word [] b h = tt
parted line word (l ∷ ls) b h = rw b h

-- a line takes the words that it still has to
takes : (width : ℕ) (words rest : List Bytes) (line : Bytes) → length line + length (spaced words) ≤ width
    → lines_from width line (words ++ rest) ≡ lines_from width (line ++ spaced words) rest
takes width [] rest line h = rw append-nil
takes width (word ∷ words) rest line h =
    let k : length line + (suc (length word) + length (spaced words)) ≤ width = simp length-append at h in
    line_takes width line word (words ++ rest) (omega arith) ∙ takes width words rest (line ++ (32 ∷ word)) (simp length-append (omega arith))
    ∙ simp append_assoc

takes_line : (width : ℕ) (l : Bytes) (rest : List Bytes) → Fits width l → lines_from width (words_of l).first ((words_of l).later ++ rest) ≡ lines_from width l rest
takes_line width l rest (inl h) =
    let k : length (words_of l).first + length (spaced (words_of l).later) ≤ width = simp length-append at (rw (← words_joined l) at h) in
    takes width (words_of l).later rest (words_of l).first k ∙ rw (words_joined l)
takes_line width l rest (inr e) = rw (word_first l e, e)

-- the lines joined by spaces are the paragraph
pub wrap_joined : (width : ℕ) (p : Bytes) → joined (wrap width p) ≡ p
unfolding wrap
wrap_joined width p =
    ap (drop 1)
    (lines_keep width (λ line words ls. spaced ls ≡ 32 ∷ line ++ spaced words) (λ line. refl)
    (λ line word words ls h e. e ∙ simp append_assoc)
    (λ line word words ls h e. rw e)
    (words_of p).later
    (words_of p).first)
    ∙ words_joined p

-- no line is longer than the width unless it is a single word
pub wrap_fits : (width : ℕ) (p : Bytes) → Each (Fits width) (wrap width p)
unfolding wrap
wrap_fits width p =
    lines_keep width (λ line words ls. Fits width line → Each IsWord words → Each (Fits width) ls) (λ line f ws. (f, tt))
    (λ line word words ls h g f ws. g (inl (simp length-append (omega arith))) ws.1)
    (λ line word words ls h g f ws. (f, g (inr ws.0) ws.1))
    (words_of p).later
    (words_of p).first
    (inr (are_words p).0)
    (are_words p).1

-- no line could take the next word
pub wrap_greedy : (width : ℕ) (p : Bytes) → Greedy width (wrap width p)
unfolding wrap
wrap_greedy width p =
    (lines_keep width (λ line words ls. Each IsWord words → Begins (words_of line).first ls × Greedy width ls) (λ line ws. (refl, (tt, tt)))
    (λ line word words ls h g ws. (rw first_append at (g ws.1).0, (g ws.1).1))
    (λ line word words ls h g ws. (refl, (parted line word ls (rw (word_first word ws.0) at (g ws.1).0) h, (g ws.1).1)))
    (words_of p).later
    (words_of p).first
    (are_words p).1
    ).1

-- a paragraph that fits is one line
pub wrap_line : (width : ℕ) (l : Bytes) → Fits width l → wrap width l ≡ l ∷ []
unfolding wrap
wrap_line width l f = rw append-nil at (takes_line width l [] f)

pub wrap_one : (width : ℕ) (p : Bytes) → length p ≤ width → wrap width p ≡ p ∷ []
wrap_one width p h = wrap_line width p (inl h)

-- only these lines are so
first_joined : (l : Bytes) (ls : List Bytes) → (words_of (joined (l ∷ ls))).first ≡ (words_of l).first
first_joined l [] = ap (λ (x : Bytes). (words_of x).first) (append-nil l)
first_joined l (m ∷ ls) = first_append l (joined (m ∷ ls))

pub wrap-cons : (width : ℕ) (l p : Bytes) → Fits width l → width < length l + 1 + length (words_of p).first → wrap width (l ++ (32 ∷ p)) ≡ l ∷ wrap width p
unfolding wrap
wrap-cons width l p f h =
    rw (first_append l p, later_append l p) (takes_line width l ((words_of p).first ∷ (words_of p).later) f
    ∙ line_leaves width l (words_of p).first (words_of p).later h)

pub wrap_only : (width : ℕ) (l : Bytes) (ls : List Bytes) → Each (Fits width) (l ∷ ls) → Greedy width (l ∷ ls) → wrap width (joined (l ∷ ls)) ≡ l ∷ ls
wrap_only width l [] f g = ap (wrap width) (append-nil l) ∙ wrap_line width l f.0
wrap_only width l (m ∷ ls) f g =
    wrap-cons width l (joined (m ∷ ls)) f.0 (rw (first_joined m ls) g.0) ∙ ap (λ (x : List Bytes). l ∷ x) (wrap_only width m ls f.1 g.1)
