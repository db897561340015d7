-- What the reading of the imports gives, by the walk over them.
use Prim.Native.Nat.{ℕ, ◌≤◌, ◌<◌}
use mathlib.Core.Path.{◌≡◌, refl, ap, ap₂, ◌∙◌}
use mathlib.Core.Bool.{Bool, true, false, false≢true}
use mathlib.Core.List.{List, [], ◌∷◌, ◌++◌, map}
use mathlib.Mathlib.Data.Bool.Basic.{or-eq-false-eq-eq-false-and-eq-false as or-eq-false-iff}
use native.Mathlib.Omega.{arith}
use lib.Dec.{eqb}
use lib.ListN.{length}
use borrow.Author.Tests.{eq-eqb}
use Rattle.wire.specs.Bytes.{Bytes}
use Rattle.wire.specs.Pick.{pick}
use Rattle.token.specs.Token.{Token}
use Rattle.token.specs.Kind.{k_import}
use Rattle.token.specs.Places.{tok_at, next_at, tokens_from}
use Rattle.token.proofs.Walk.{tokens_step}
use Rattle.grammar.specs.Tree.{ImportTree, Is, All}
use Rattle.grammar.specs.Error.{Error, kind_at, error_at, error_over}
use Rattle.grammar.specs.Meaning.{is_nameless, import_of}
use Rattle.grammar.specs.Condition.{any_of, same_import, import_errors}
use Rattle.grammar.specs.Reading.{Result, fail, is, Reading, nothing, join, parse_import, parse_imports}
use Rattle.grammar.proofs.Rules.{cons≢nil, both_nil}
use Rattle.grammar.proofs.Left.{left, import_left}
use Rattle.grammar.proofs.Fuel.{imports_end, imports_next, imports_dropped}
use Rattle.sorted.specs.Item.{import_at, place_of, IsImport, NamedAt, names}
use Rattle.sorted.specs.Order.{Items}
use Rattle.sorted.specs.Sorted.{any_taken}
use Rattle.sorted.proofs.Items.{import_read}
use Rattle.places.specs.Imports.{Keyword, Imports, none, read, dropped, lacks_name}

abbrev pub tree_at : Bytes → ℕ → ImportTree
tree_at t x = import_at t (place_of x)

abbrev pub imports_after : Bytes → ℕ → ℕ → List ImportTree → Reading (List ImportTree)
imports_after t at end before = parse_imports (length (tokens_from t at)) end before (tokens_from t at)

-- a list of at most one error, by a test
no_error : (b : Bool) (e : Error) → b ≡ false → pick b (e ∷ []) [] ≡ []
unfolding pick
no_error b e h = rw h

error_free : (b : Bool) (e : Error) → pick b (e ∷ []) [] ≡ [] → b ≡ false
unfolding pick
error_free true e h = absurd (cons≢nil h)
error_free false e h = refl

-- One import.
module _ {t : Bytes} {at : ℕ} (k : Keyword t at) where
  first : tokens_from t at ≡ tok_at t at ∷ tokens_from t (next_at t at)
  first = tokens_step t at k.token.1

  kind_is : eqb (tok_at t at).kind k_import ≡ true
  kind_is = eq-eqb (tok_at t at).kind k_import k.kind

  shorter : {m : Result ImportTree} → parse_import (tok_at t at) (tokens_from t (next_at t at)) ≡ m → length (left m) < length (tokens_from t at)
  shorter {m} p =
      let l : length (left m) ≤ length (tokens_from t (next_at t at)) = rw p
      at (import_left (tok_at t at) (length (tokens_from t (next_at t at))) (tokens_from t (next_at t at)) (omega arith)) in
      rw first (omega arith)

  module _ (end : ℕ) (before : List ImportTree) where
    one_read : {x : ℕ} (next : ℕ) → NamedAt t at x → (i : IsImport t at) → i.rest ≡ tokens_from t next
        → imports_after t at end before ≡ join (record { errors = import_errors before (tree_at t x); value = tree_at t x ∷ []; rest = tokens_from t next })
        (imports_after t next end (tree_at t x ∷ before))
    one_read next n i e =
        rw (first, n.place, (import_read i).is) (rw e at (imports_next end before (tok_at t at) (tokens_from t (next_at t at)) kind_is i.read))

    one_dropped : {n : ℕ} (next : ℕ) → parse_import (tok_at t at) (tokens_from t (next_at t at)) ≡ fail n (tokens_from t next)
        → imports_after t at end before ≡ join (record { errors = error_at end n (tokens_from t next) ∷ []; value = []; rest = tokens_from t next })
        (imports_after t next end before)
    one_dropped next e = rw first (imports_dropped end before (tok_at t at) (tokens_from t (next_at t at)) kind_is e)

ended : (end : ℕ) (before : List ImportTree) (ts : List Token) → is k_import (kind_at ts) ≡ false → parse_imports (length ts) end before ts ≡ nothing ts
ended end before [] e = refl
ended end before (u ∷ us) e = imports_end end before u us e

-- All of them.
module _ {t : Bytes} where
  pub walk_items : {at : ℕ} {whole : Bool} {xs : List ℕ} {past : ℕ} → Imports t at whole xs past → Items (names t) xs
  walk_items (none e) = tt
  walk_items (read k n i e v h w) = (n.named, walk_items w)
  walk_items (dropped k n e v h w) = walk_items w

  pub walk_keywords : {at : ℕ} {whole : Bool} {xs : List ℕ} {past : ℕ} → Imports t at whole xs past → All (λ x. Is k_import (tok_at t (place_of x))) xs
  walk_keywords (none e) = tt
  walk_keywords (read k n i e v h w) = (rw n.place k.kind, walk_keywords w)
  walk_keywords (dropped k n e v h w) = walk_keywords w

  pub walk_few : {at : ℕ} {whole : Bool} {xs : List ℕ} {past : ℕ} → Imports t at whole xs past → length xs ≤ length (tokens_from t at)
  walk_few (none e) = omega arith
  walk_few (read k n i e v h w) = omega (arith, walk_few w, shorter k i.read, ap length e)
  walk_few (dropped k n e v h w) = omega (arith, walk_few w, shorter k e)

  pub walk_value : {at : ℕ} {whole : Bool} {xs : List ℕ} {past : ℕ} → Imports t at whole xs past → (end : ℕ) (before : List ImportTree)
      → (imports_after t at end before).value ≡ map (tree_at t) xs
  walk_value (none {at = at} e) end before = ap (λ r. r.value) (ended end before (tokens_from t at) e)
  walk_value (read {next = next} {x = x} k n i e v h w) end before =
      ap (λ r. r.value) (one_read k end before next n i e) ∙ ap (tree_at t x ∷◌) (walk_value w end (tree_at t x ∷ before))
  walk_value (dropped {next = next} k n e v h w) end before = ap (λ r. r.value) (one_dropped k end before next e) ∙ walk_value w end before

  pub walk_rest : {at : ℕ} {whole : Bool} {xs : List ℕ} {past : ℕ} → Imports t at whole xs past → (end : ℕ) (before : List ImportTree)
      → (imports_after t at end before).rest ≡ tokens_from t past
  walk_rest (none {at = at} e) end before = ap (λ r. r.rest) (ended end before (tokens_from t at) e)
  walk_rest (read {next = next} {x = x} k n i e v h w) end before = ap (λ r. r.rest) (one_read k end before next n i e) ∙ walk_rest w end (tree_at t x ∷ before)
  walk_rest (dropped {next = next} k n e v h w) end before = ap (λ r. r.rest) (one_dropped k end before next e) ∙ walk_rest w end before

  pub walk_sound : {at : ℕ} {whole : Bool} {xs : List ℕ} {past : ℕ} → Imports t at whole xs past → (end : ℕ) (before : List ImportTree)
      → whole ≡ true → any_of (lacks_name t) xs ≡ false → any_taken same_import before (map (tree_at t) xs) ≡ false
      → (imports_after t at end before).errors ≡ []
  unfolding lacks_name
  walk_sound (none {at = at} e) end before b n r = ap (λ r. r.errors) (ended end before (tokens_from t at) e)
  walk_sound (read {next = next} {x = x} {xs = xs} k l i e v h w) end before b n r =
      let tree = tree_at t x in
      let n' = (or-eq-false-iff (is_nameless tree) (any_of (lacks_name t) xs)).0 n in
      let r' = (or-eq-false-iff (any_of (same_import tree) before) (any_taken same_import (tree ∷ before) (map (tree_at t) xs))).0 r in
      let range = (import_of tree).range in
      let none_here : import_errors before tree ≡ [] = ap₂ ◌++◌ (no_error _ (error_over 14 range) n'.0) (no_error _ (error_over 15 range) r'.0) in
      ap (λ r. r.errors) (one_read k end before next l i e) ∙ ap₂ ◌++◌ none_here (walk_sound w end (tree ∷ before) b n'.1 r'.1)
  walk_sound (dropped k l e v h w) end before b n r = absurd (false≢true b)

  pub walk_clear : {at : ℕ} {whole : Bool} {xs : List ℕ} {past : ℕ} → Imports t at whole xs past → (end : ℕ) (before : List ImportTree)
      → (imports_after t at end before).errors ≡ [] → (any_of (lacks_name t) xs ≡ false) × (any_taken same_import before (map (tree_at t) xs) ≡ false)
  unfolding lacks_name
  walk_clear (none e) end before c = (refl, refl)
  walk_clear (read {next = next} {x = x} k l i e v h w) end before c =
      let tree = tree_at t x in
      let a = both_nil (import_errors before tree) (imports_after t next end (tree ∷ before)).errors (rw (one_read k end before next l i e) at c) in
      let b = both_nil (pick (is_nameless tree) (error_over 14 (import_of tree).range ∷ []) []) _ a.0 in
      let rest = walk_clear w end (tree ∷ before) a.1 in
      (rw (error_free (is_nameless tree) _ b.0) rest.0, rw (error_free (any_of (same_import tree) before) _ b.1) rest.1)
  walk_clear (dropped {next = next} k l e v h w) end before c = absurd (cons≢nil (rw (one_dropped k end before next e) at c))
