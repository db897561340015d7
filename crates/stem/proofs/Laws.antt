-- Where the two loops stand: what is found so far, with the bytes that are left, gives what the whole path gives. And the name of an import, by the
-- part that its identifier is.
use mathlib.Core.Path.{◌≡◌, refl, ap, sym, ◌∙◌}
use mathlib.Core.Bool.{Bool, true, false}
use mathlib.Core.List.{[], ◌∷◌, ◌++◌, append_assoc, append-nil}
use Prim.Native.Nat.{ℕ, suc, ◌+◌, ◌-◌, ◌<◌, ◌≤◌}
use native.Mathlib.Nat.{sub_self, add-sub_cancel_left}
use native.Mathlib.Numerals.{add-one}
use native.Mathlib.Omega.{arith}
use lib.ListN.{length, get_or, take, drop, length-drop, drop_of_length-le}
use lib.Seq.{drop-cons, take-suc, get_or-drop, length-take-le, take-take, take-add, drop_at, drop-drop}
use lib.Dec.{eqb}
use borrow.Author.Tests.{eq-eqb, ne_eqb}
use Rattle.wire.specs.Bytes.{Bytes}
use Rattle.wire.specs.Pick.{pick}
use Rattle.stem.specs.Part.{part, IsPart}
use Rattle.stem.specs.declared.Part.{Part}
use Rattle.stem.specs.Stem.{parts, kept, last_kept, last_part, is_parent, last_dot, cut, stem_of, import_name}

part_none : (i : ℕ) (path : Bytes) → part i i path ≡ []
part_none i path = rw sub_self

part_more : (a i : ℕ) (path : Bytes) → a ≤ i → i < length path → part a (suc i) path ≡ part a i path ++ (get_or path i 0 ∷ [])
part_more a i path h k =
    let e : suc i - a ≡ suc (i - a) = omega arith in
    let f : a + (i - a) ≡ i = omega arith in
    let g : i - a < length (drop a path) = rw length-drop (omega arith) in
    rw (e, take-suc (drop a path) (i - a) 0 g, get_or-drop, f)

pub part_length : (a e : ℕ) (bs : Bytes) → e ≤ length bs → length (part a e bs) ≡ e - a
part_length a e bs h = let l = length-drop a bs in length-take-le (e - a) (drop a bs) (omega arith)

drop_taken : (f m : ℕ) (l : Bytes) → f ≤ length l → drop f (take (f + m) l) ≡ take m (drop f l)
drop_taken f m l h = rw (take-add f m l, drop_at (take f l) (take m (drop f l)) f (length-take-le f l h))

-- a part of a part
pub part_within : {bs these : Bytes} {a e : ℕ} {r : Part} → a ≤ e → e ≤ length bs → IsPart (part a e bs) these r
    → IsPart bs these (record { from = a + r.from; to = a + r.to })
part_within {bs} {these} {a} {e} {r} o h w =
    let l = part_length a e bs h in
    let i : r.to ≤ e - a = omega (arith, w.inside) in
    let n : e - a ≡ r.from + (e - a - r.from) = omega (arith, w.order) in
    let t : a + r.to - (a + r.from) ≡ r.to - r.from = omega arith in
    let d : drop r.from (part a e bs) ≡ take (e - a - r.from) (drop (a + r.from) bs) =
    ap (λ (k : ℕ). drop r.from (take k (drop a bs))) n
    ∙ rw (drop_taken r.from (e - a - r.from) (drop a bs) (rw length-drop (omega (arith, w.order))), drop-drop)
    in
    record {
      order = omega (arith, w.order);
      inside = omega arith;
      is = rw (t, ← w.is, d, take-take (r.to - r.from) (e - a - r.from) (drop (a + r.from) bs) (omega arith));
    }

-- the last part kept before the place i runs from `from` to `to`, and another has begun at `start`
pub record Found (path : Bytes) (from to start i : ℕ) : Type 0 where
  pub ordered : from ≤ to
  pub inside : to ≤ i
  pub begun : start ≤ i
  pub within : i ≤ length path
  pub left : last_part path ≡ last_kept (part from to path) ((part start i path ++ (parts (drop i path)).first) ∷ (parts (drop i path)).later)

pub none : (path : Bytes) → Found path 0 0 0 0
unfolding last_part
none path = record { ordered = omega arith; inside = omega arith; begun = omega arith; within = omega arith; left = refl }

module _ {path : Bytes} {from to start i : ℕ} (g : Found path from to start i) where
  pub byte : i < length path → (get_or path i 0 ≡ 47 → ⊥) → Found path from to start (i + 1)
  byte h n =
      record {
        ordered = g.ordered;
        inside = omega (arith, g.inside);
        begun = omega (arith, g.begun);
        within = omega arith;
        left = g.left ∙ rw (add-one, part_more start i path g.begun h, drop-cons path i 0 h, ne_eqb _ _ n, parts, append_assoc);
      }

  slash : i < length path → get_or path i 0 ≡ 47 → (k : Bool) → k ≡ kept (part start i path)
      → last_part path ≡ last_kept (pick k (part start i path) (part from to path))
      ((part (i + 1) (i + 1) path ++ (parts (drop (i + 1) path)).first) ∷ (parts (drop (i + 1) path)).later)
  slash h n k e = g.left ∙ rw (part_none, e, add-one, drop-cons path i 0 h, eq-eqb _ _ n, parts, append-nil)

  pub keep : i < length path → get_or path i 0 ≡ 47 → {k : Bool} → k ≡ kept (part start i path) → k ≡ true → Found path start i (i + 1) (i + 1)
  unfolding pick
  keep h n k e = record { ordered = g.begun; inside = omega arith; begun = omega arith; within = omega arith; left = slash h n true (sym e ∙ k) }

  pub leave : i < length path → get_or path i 0 ≡ 47 → {k : Bool} → k ≡ kept (part start i path) → k ≡ false → Found path from to (i + 1) (i + 1)
  unfolding pick
  leave h n k e = record {
    ordered = g.ordered;
    inside = omega (arith, g.inside);
    begun = omega arith;
    within = omega arith;
    left = slash h n false (sym e ∙ k);
  }

  whole : length path ≤ i → (k : Bool) → k ≡ kept (part start i path) → pick k (part start i path) (part from to path) ≡ last_part path
  whole h k e = sym (g.left ∙ rw (e, drop_of_length-le path h, append-nil))

  pub ends_kept : length path ≤ i → {k : Bool} → k ≡ kept (part start i path) → k ≡ true → IsPart path (last_part path) (record { from = start; to = i })
  unfolding pick
  ends_kept h k e = record { order = g.begun; inside = g.within; is = whole h true (sym e ∙ k) }

  pub ends_left : length path ≤ i → {k : Bool} → k ≡ kept (part start i path) → k ≡ false → IsPart path (last_part path) (record { from = from; to = to })
  unfolding pick
  ends_left h k e = record { order = g.ordered; inside = omega (arith, g.inside, g.within); is = whole h false (sym e ∙ k) }

-- the last dot before the place i is at `best`
pub record Dotted (p : Bytes) (best i : ℕ) : Type 0 where
  pub within : i ≤ length p
  pub left : last_dot 0 0 p ≡ last_dot i best (drop i p)

module _ {p : Bytes} {best i : ℕ} (g : Dotted p best i) where
  step : i < length p → (b : Bool) → eqb (get_or p i 0) 46 ≡ b → Dotted p (pick b i best) (i + 1)
  step h b e = record {
    within = omega arith;
    left = g.left ∙ rw (drop-cons p i 0 h, add-one) (ap (λ (t : Bool). last_dot (suc i) (pick t i best) (drop (suc i) p)) e);
  }

  pub dot : i < length p → get_or p i 0 ≡ 46 → Dotted p i (i + 1)
  unfolding pick
  dot h n = step h true (eq-eqb _ _ n)

  pub other : i < length p → (get_or p i 0 ≡ 46 → ⊥) → Dotted p best (i + 1)
  unfolding pick
  other h n = step h false (ne_eqb _ _ n)

  pub last : length p ≤ i → best ≡ last_dot 0 0 p
  last h = sym (g.left ∙ rw (drop_of_length-le p h))

pick_le : (b : Bool) {x y n : ℕ} → x ≤ n → y ≤ n → pick b x y ≤ n
unfolding pick
pick_le true h k = h
pick_le false h k = k

dot_before : (i best : ℕ) (p : Bytes) → best ≤ i → last_dot i best p ≤ i + length p
dot_before i best [] h = omega arith
dot_before i best (b ∷ p) h =
    let k : pick (eqb b 46) i best ≤ i = pick_le (eqb b 46) (omega arith) h in
    omega (arith, dot_before (suc i) (pick (eqb b 46) i best) p (omega arith))

-- the three answers of `find`, by the last part
module _ {path : Bytes} {p : Part} (w : IsPart path (last_part path) p) where
  pub dot_inside : {k : ℕ} → k ≡ last_dot 0 0 (part p.from p.to path) → p.from + k ≤ p.to
  dot_inside d =
      omega (arith, part_length p.from p.to path w.inside, dot_before 0 0 (part p.from p.to path) (omega arith), w.order)

  module _ {b : Bool} (h : b ≡ is_parent (part p.from p.to path)) where
    pub no_stem : b ≡ true → IsPart path (stem_of path) (record { from = p.from; to = p.from })
    unfolding stem_of pick
    no_stem t = record { order = omega arith; inside = omega (arith, w.order, w.inside); is = rw (part_none, ← w.is, ← h, t) }

    pub uncut : b ≡ false → {k : ℕ} → k ≡ last_dot 0 0 (part p.from p.to path) → k ≡ 0 → IsPart path (stem_of path) p
    unfolding stem_of cut pick
    uncut t d z = record { order = w.order; inside = w.inside; is = rw (← w.is, ← h, t, eq-eqb _ _ (sym d ∙ z)) }

    pub cut_there : b ≡ false → {k : ℕ} → k ≡ last_dot 0 0 (part p.from p.to path) → (k ≡ 0 → ⊥)
        → IsPart path (stem_of path) (record { from = p.from; to = p.from + k })
    unfolding stem_of cut pick
    cut_there t {k} d z =
        let i = dot_inside d in
        record {
          order = omega arith;
          inside = omega (arith, w.inside);
          is = rw (← w.is, ← h, t, ne_eqb _ _ (λ f. z (d ∙ f)), ← d, add-sub_cancel_left, take-take k (p.to - p.from) (drop p.from path) (omega arith));
        }

-- an import's name is one or the other
pub either_name : (P : Bytes → Type 0) (path identifier : Bytes) → P (stem_of path) → P identifier → P (import_name path identifier)
unfolding import_name
either_name P path identifier s i = go (eqb (length identifier) 0)
  where
    go : (b : Bool) → P (pick b (stem_of path) identifier)
    go true = unfold pick in s
    go false = unfold pick in i

module _ (path : Bytes) {bs identifier : Bytes} {p : Part} (w : IsPart bs identifier p) where
  identifier_length : length identifier ≡ p.to - p.from
  identifier_length = rw (← w.is) (part_length p.from p.to bs w.inside)

  pub identifier_names : p.from < p.to → IsPart bs (import_name path identifier) p
  unfolding import_name pick
  identifier_names h = rw (ne_eqb (length identifier) 0 (λ z. omega (arith, identifier_length))) w

  pub stem_names : p.to ≤ p.from → import_name path identifier ≡ stem_of path
  unfolding import_name pick
  stem_names h = rw (eq-eqb (length identifier) 0 (omega (arith, identifier_length)))
