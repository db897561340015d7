-- The conditions beside the grammar hold exactly where they cause no error.
use mathlib.Core.Path.{◌≡◌, refl, sym, ◌∙◌}
use mathlib.Core.Bool.{Bool, true, false, true≢false}
use mathlib.Core.Option.{Option, none, some}
use mathlib.Core.List.Memᴰ
use mathlib.Core.List.{List, [], ◌∷◌, map, Memᴰ}
use mathlib.Core.Logic.{◌⊎◌, inl, inr}
use borrow.Author.Tests.{eqb-true, eq-eqb}
use Rattle.wire.specs.Pick.{pick}
use Rattle.identifier.proofs.Total.{same_snake, snake_same}
use Rattle.token.specs.Token.{Token}
use Rattle.grammar.specs.Tree.{All, DeletedPart, DeclarationTree, ImportTree, SchemaTree}
use Rattle.grammar.specs.Meaning.{number_of, deleted_of, is_nameless, name_of, import_of}
use Rattle.grammar.specs.Error.{Error, error_over}
use Rattle.grammar.specs.Condition.{Distinct, any_of, Named, key_of, DeletedOnce, Good, same_import, same_index, import_errors}
use Rattle.grammar.specs.Condition.{index_errors, imports_errors, deleted_errors, declarations_errors, condition_errors}
use Rattle.grammar.proofs.Rules.{cons≢nil, both_nil}

-- each of ks differs from those before it and from those of seen
pub record New {K : Type 0} (seen ks : List K) : Type 0 where
  pub apart : (k : K) → Memᴰ k ks → ¬ (Memᴰ k seen)
  pub distinct : Distinct ks

module _ {K : Type 0} where
  pub new_nil : (seen : List K) → New seen []
  new_nil seen = record { apart = λ k m n. Memᴰ.not-nil m; distinct = tt }

  pub new_cons : (seen ks : List K) (k : K) → ¬ (Memᴰ k seen) → New (k ∷ seen) ks → New seen (k ∷ ks)
  new_cons seen ks k n w =
      record { apart = λ x m m'. go x m' (Memᴰ.cases_cons m); distinct = (λ m. w.apart k m (Memᴰ.head refl), w.distinct) }
    where
      go : (x : K) → Memᴰ x seen → (x ≡ k) ⊎ Memᴰ x ks → ⊥
      go x m (inl e) = n (Memᴰ.cast (sym e) m)
      go x m (inr i) = w.apart x i (Memᴰ.tail m)

  pub new_tail : (seen ks : List K) (k : K) → New seen (k ∷ ks) → (¬ (Memᴰ k seen)) × New (k ∷ seen) ks
  new_tail seen ks k w =
      (w.apart k (Memᴰ.head refl), record { apart = λ x m m'. go x m (Memᴰ.cases_cons m'); distinct = w.distinct.1 })
    where
      go : (x : K) → Memᴰ x ks → (x ≡ k) ⊎ Memᴰ x seen → ⊥
      go x m (inl e) = w.distinct.0 (Memᴰ.cast (sym e) m)
      go x m (inr i) = w.apart x (Memᴰ.tail m) i

  pub distinct_new : (ks : List K) → Distinct ks → New [] ks
  distinct_new ks d = record { apart = λ k m n. Memᴰ.not-nil n; distinct = d }

-- a test that compares keys
module _ {A K : Type 0} (key : A → K) (same : A → A → Bool) (same_key : (x y : A) → same x y ≡ true → key x ≡ key y)
    (key-same : (x y : A) → key x ≡ key y → same x y ≡ true) where
  pub none_same : (x : A) (ys : List A) → any_of (same x) ys ≡ false → ¬ (Memᴰ (key x) (map key ys))
  none_same x [] h m = Memᴰ.not-nil m
  none_same x (y ∷ ys) h m = go (same x y) refl (Memᴰ.cases_cons m) (none_same x ys)
    where
      go : (b : Bool) → same x y ≡ b → (key x ≡ key y) ⊎ Memᴰ (key x) (map key ys)
          → (any_of (same x) ys ≡ false → ¬ (Memᴰ (key x) (map key ys))) → ⊥
      go true e s ih = true≢false (rw e at h)
      go false e (inl p) ih = true≢false (sym (key-same x y p) ∙ e)
      go false e (inr n) ih = ih (rw e at h) n

  pub same_none : (x : A) (ys : List A) → ¬ (Memᴰ (key x) (map key ys)) → any_of (same x) ys ≡ false
  same_none x [] n = refl
  same_none x (y ∷ ys) n = go (same x y) refl (same_none x ys λ m. n (Memᴰ.tail m))
    where
      go : (b : Bool) → same x y ≡ b → any_of (same x) ys ≡ false → any_of (same x) (y ∷ ys) ≡ false
      go true e ih = absurd (n (Memᴰ.head (same_key x y e)))
      go false e ih = rw e ih

-- a list of at most one error, by a test
one_none : (b : Bool) (e : Error) → pick b (e ∷ []) [] ≡ [] → b ≡ false
unfolding pick
one_none true e h = absurd (cons≢nil h)
one_none false e h = refl

none_one : (b : Bool) (e : Error) → b ≡ false → pick b (e ∷ []) [] ≡ []
unfolding pick
none_one b e h = rw h

-- deleted indices
index_key : (t u : Token) → same_index t u ≡ true → number_of t ≡ number_of u
index_key t u e = eqb-true (number_of t) (number_of u) e

key_index : (t u : Token) → number_of t ≡ number_of u → same_index t u ≡ true
key_index t u e = eq-eqb (number_of t) (number_of u) e

indices_there : (before ts : List Token) → index_errors before ts ≡ [] → New (map number_of before) (map number_of ts)
indices_there before [] h = new_nil (map number_of before)
indices_there before (t ∷ ts) h =
    let i = both_nil _ (index_errors (t ∷ before) ts) h in
    let n = none_same number_of same_index index_key key_index t before (one_none (any_of (same_index t) before) _ i.0) in
    new_cons (map number_of before) (map number_of ts) (number_of t) n (indices_there (t ∷ before) ts i.1)

indices_back : (before ts : List Token) → New (map number_of before) (map number_of ts) → index_errors before ts ≡ []
indices_back before [] w = refl
indices_back before (t ∷ ts) w =
    let i = new_tail (map number_of before) (map number_of ts) (number_of t) w in
    rw (none_one (any_of (same_index t) before) _ (same_none number_of same_index index_key key_index t before i.0)) (indices_back (t ∷ before) ts i.1)

deleted_there : (o : Option DeletedPart) → deleted_errors o ≡ [] → Distinct (deleted_of o)
deleted_there none h = tt
deleted_there (some p) h = (indices_there [] p.indices h).distinct

deleted_back : (o : Option DeletedPart) → Distinct (deleted_of o) → deleted_errors o ≡ []
deleted_back none d = refl
deleted_back (some p) d = indices_back [] p.indices (distinct_new (map number_of p.indices) d)

declarations_there : (ds : List DeclarationTree) → declarations_errors ds ≡ [] → All DeletedOnce ds
declarations_there [] h = tt
declarations_there (d ∷ ds) h = let i = both_nil (deleted_errors d.deleted) (declarations_errors ds) h in
    (deleted_there d.deleted i.0, declarations_there ds i.1)

declarations_back : (ds : List DeclarationTree) → All DeletedOnce ds → declarations_errors ds ≡ []
declarations_back [] g = refl
declarations_back (d ∷ ds) g = rw (deleted_back d.deleted g.0) (declarations_back ds g.1)

-- import names
import_key : (i j : ImportTree) → same_import i j ≡ true → key_of i ≡ key_of j
import_key i j e = same_snake (name_of i) (name_of j) e

key_import : (i j : ImportTree) → key_of i ≡ key_of j → same_import i j ≡ true
key_import i j e = snake_same (name_of i) (name_of j) e

imports_there : (before is : List ImportTree) → imports_errors before is ≡ [] → All Named is × New (map key_of before) (map key_of is)
imports_there before [] h = (tt, new_nil (map key_of before))
imports_there before (i ∷ is) h =
    let j = both_nil (import_errors before i) (imports_errors (i ∷ before) is) h in
    let k = both_nil (pick (is_nameless i) (error_over 14 (import_of i).range ∷ []) []) _ j.0 in
    let n = none_same key_of same_import import_key key_import i before (one_none (any_of (same_import i) before) _ k.1) in
    let g = imports_there (i ∷ before) is j.1 in
    ((one_none (is_nameless i) _ k.0, g.0), new_cons (map key_of before) (map key_of is) (key_of i) n g.1)

imports_back : (before is : List ImportTree) → All Named is → New (map key_of before) (map key_of is) → imports_errors before is ≡ []
imports_back before [] f w = refl
imports_back before (i ∷ is) f w =
    let j = new_tail (map key_of before) (map key_of is) (key_of i) w in
    rw (none_one (is_nameless i) (error_over 14 (import_of i).range) f.0)
    (rw (none_one (any_of (same_import i) before) (error_over 15 (import_of i).range) (same_none key_of same_import import_key key_import i before j.0))
    (imports_back (i ∷ before) is f.1 j.1))

pub conditions_hold : (s : SchemaTree) → condition_errors s ≡ [] → Good s
conditions_hold s h =
    let i = both_nil (imports_errors [] s.imports) (declarations_errors s.declarations) h in
    let j = imports_there [] s.imports i.0 in
    record { named = j.0; distinct = j.1.distinct; once = declarations_there s.declarations i.1 }

pub no_condition_errors : (s : SchemaTree) → Good s → condition_errors s ≡ []
no_condition_errors s g =
    rw (imports_back [] s.imports g.named (distinct_new (map key_of s.imports) g.distinct)) (declarations_back s.declarations g.once)
