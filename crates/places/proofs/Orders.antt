-- What the imports in order tell, for judging them and for writing them.
use Prim.Native.Nat.{ℕ}
use mathlib.Core.Path.{◌≡◌, refl, sym, ap, ap₂, ◌∙◌}
use mathlib.Core.Bool.{Bool, true, false, not, ◌||◌, not-not, and-eq-true_iff}
use mathlib.Core.List.{List, [], ◌∷◌, map, map-map}
use mathlib.Mathlib.Data.Bool.Basic.{or-eq-false-eq-eq-false-and-eq-false as or-eq-false-iff}
use Rattle.wire.specs.Bytes.{Bytes}
use Rattle.wire.specs.Pick.{pick}
use Rattle.token.specs.Kind.{k_import}
use Rattle.token.specs.Places.{tok_at}
use Rattle.grammar.specs.Tree.{ImportTree, Is, All}
use Rattle.grammar.specs.Sort.{sort_by}
use Rattle.grammar.specs.Meaning.{import_of, comes_before}
use Rattle.grammar.specs.Condition.{any_of, same_import}
use Rattle.grammar.specs.Reading.{Reading}
use Rattle.parser.specs.Steps.{ahead}
use Rattle.sorted.specs.Item.{place_of, names}
use Rattle.sorted.specs.Order.{Items}
use Rattle.sorted.specs.Laws.{names_lawful}
use Rattle.sorted.specs.Sorted.{any_next, any_taken, Repeats}
use Rattle.sorted.proofs.Each.{each_sort}
use Rattle.sorted.proofs.Mapped.{sort_map, any_map}
use Rattle.sorted.proofs.Theorems.{repeat_taken}
use Rattle.places.specs.Imports.{NamedHere, lacks_name, Orders}
use Rattle.places.specs.declared.Ordered.{Ordered}
use Rattle.places.proofs.Arranging.{told}
use Rattle.places.proofs.Walk.{tree_at, imports_after, walk_items, walk_keywords, walk_value, walk_rest, walk_sound, walk_clear}

not_true : {b : Bool} → not b ≡ true → b ≡ false
not_true {b} h = sym (not-not b) ∙ ap not h

-- elements that stand for others are taken as those are
taken_map : {A B : Type 0} (f : A → B) (is_same : B → B → Bool) (before xs : List A)
    → any_taken is_same (map f before) (map f xs) ≡ any_taken (λ x y. is_same (f x) (f y)) before xs
taken_map f is_same before [] = refl
taken_map f is_same before (x ∷ xs) = ap₂ ◌||◌ (any_map f (is_same (f x)) before) (taken_map f is_same (x ∷ before) xs)

module _ (t : Bytes) where
  trees_taken : (xs : List ℕ) → any_taken same_import [] (map (tree_at t) xs) ≡ any_next (names t).same_item (sort_by (names t).item_before xs)
  trees_taken xs = taken_map (tree_at t) same_import [] xs ∙ sym (repeat_taken (names_lawful t) xs)

  trees_sorted : (xs : List ℕ)
      → map (λ x. import_of (tree_at t x)) (sort_by (names t).item_before xs) ≡ sort_by comes_before (map import_of (map (tree_at t) xs))
  trees_sorted xs = rw (map-map import_of (tree_at t) xs) (sort_map (λ (x : ℕ). import_of (tree_at t x)) comes_before xs)

  each_named : (xs : List ℕ) → All (λ x. Is k_import (tok_at t (place_of x))) xs → Items (names t) xs → any_of (lacks_name t) xs ≡ false → All (NamedHere t) xs
  unfolding lacks_name
  each_named [] k i n = tt
  each_named (x ∷ xs) k i n =
      let n' = (or-eq-false-iff (lacks_name t x) (any_of (lacks_name t) xs)).0 n in
      (record { keyword = k.0; item = i.0; named = n'.0 }, each_named xs k.1 i.1 n'.1)

module _ {t : Bytes} {imports : List ℕ} {r : Ordered} (o : Orders t imports r) where
  abbrev pub reading : ℕ → Reading (List ImportTree)
  reading end = imports_after t r.from.at end []

  pub orders_told : Repeats (names t) o.items (pick r.repeated imports [])
  orders_told = rw o.list (told (names_lawful t) r.repeated o.items (walk_items o.walk) o.repeat)

  module _ (end : ℕ) where
    pub orders_rest : (reading end).rest ≡ ahead t r.next
    orders_rest = walk_rest o.walk end []

    pub orders_fine : r.sound ≡ true → (reading end).errors ≡ []
    orders_fine s =
        let a = (and-eq-true_iff o.whole _).0 (sym o.sound ∙ s) in
        let b = (and-eq-true_iff _ (not r.repeated)).0 a.1 in
        walk_sound o.walk end [] a.0 (not_true b.0) (trees_taken t o.items ∙ sym o.repeat ∙ not_true b.1)

    module _ (e : (reading end).errors ≡ []) where
      in_order_lem : imports ≡ sort_by (names t).item_before o.items
      unfolding pick
      in_order_lem = let u : r.repeated ≡ false = o.repeat ∙ sym (trees_taken t o.items) ∙ (walk_clear o.walk end [] e).1 in o.list ∙ rw u

      pub orders_each : All (NamedHere t) imports
      orders_each =
          rw in_order_lem
          (each_sort (NamedHere t) (names t).item_before o.items (each_named t o.items (walk_keywords o.walk) (walk_items o.walk)
          (walk_clear o.walk end [] e).0))

      pub orders_sorted : map (λ x. import_of (tree_at t x)) imports ≡ sort_by comes_before (map import_of (reading end).value)
      orders_sorted = rw (in_order_lem, walk_value o.walk end []) (trees_sorted t o.items)
