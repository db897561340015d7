-- Laws of results, of one token, of an optional part and of a run of tokens: what reading takes is what the trees yield.
use Prim.Native.Nat.{ℕ}
use mathlib.Core.Path.{◌≡◌, refl, ap, sym, ◌∙◌, subst₂}
use mathlib.Core.Bool.{Bool, true, false, true≢false}
use mathlib.Core.Option.{Option, none, some}
use mathlib.Core.List.{List, [], ◌∷◌, ◌++◌}
use native.Mathlib.Omega.{arith}
use lib.Dec.{eqb}
use borrow.Author.Tests.{eqb-true, eq-eqb}
use Rattle.wire.specs.Pick.{pick}
use Rattle.token.specs.Token.{Token}
use Rattle.grammar.specs.Tree.{optionally, each, Is, Passes, IfAny, All}
use Rattle.grammar.specs.Error.{kind_at}
use Rattle.grammar.specs.Reading.{Result, ok, fail, and_then, is, consume, optional, front, skip}

-- x has been read off ts, and r is left
abbrev pub Read : {A : Type 0} → (A → List Token → List Token) → (A → Type 0) → List Token → A → List Token → Type 0
Read y Wf ts x r = (ts ≡ y x r) × Wf x

pub fail≢ok : {A : Type 0} {n : ℕ} {r s : List Token} {a : A} → ◌≡◌ {A = Result A} (fail n r) (ok a s) → ⊥
fail≢ok h = let z : ◌≡◌ {A = ℕ} 0 1 = cc in omega arith

pub cons≢nil : {A : Type 0} {x : A} {xs : List A} → ◌≡◌ {A = List A} (x ∷ xs) [] → ⊥
cons≢nil h = let z : ◌≡◌ {A = ℕ} 0 1 = cc in omega arith

pub both_nil : {A : Type 0} (xs ys : List A) → xs ++ ys ≡ [] → (xs ≡ []) × (ys ≡ [])
both_nil [] ys h = (refl, h)
both_nil (x ∷ xs) ys h = absurd (cons≢nil h)

-- what holds of a result's value and rest holds of an equal result's
pub along : {A : Type 0} {a b : A} {s r : List Token} (P : A → List Token → Type 0) → ◌≡◌ {A = Result A} (ok a s) (ok b r) → P a s → P b r
along P h p = subst₂ P (cc) (cc) p

-- a chain went well: so did its first rule, and then the others
pub and_then_ok : {A B C : Type 0} (m : Result A) (f : A → List Token → Result B) {b : B} {r : List Token}
    → and_then m f ≡ ok b r → ((a : A) (s : List Token) → m ≡ ok a s → f a s ≡ ok b r → C) → C
and_then_ok (ok a s) f h g = g a s refl h
and_then_ok (fail n s) f h g = absurd (fail≢ok h)

-- a kind that passes a test that k fails is not k
pub not_kind : (test : ℕ → Bool) (m k : ℕ) → test m ≡ true → test k ≡ false → eqb m k ≡ false
not_kind test m k p q = go (eqb m k) refl
  where
    go : (b : Bool) → eqb m k ≡ b → eqb m k ≡ false
    go false e = e
    go true e = absurd (true≢false (sym p ∙ ap test (eqb-true m k e) ∙ q))

pub consume_sound : (n : ℕ) (test : ℕ → Bool) (ts : List Token) {t : Token} {r : List Token} → consume n test ts ≡ ok t r
    → Read ◌∷◌ (Passes test) ts t r
unfolding pick
consume_sound n test [] h = absurd (fail≢ok h)
consume_sound n test (u ∷ us) {t} {r} h = go (test u.kind) refl
  where
    go : (b : Bool) → test u.kind ≡ b → Read ◌∷◌ (Passes test) (u ∷ us) t r
    go true e = along (Read ◌∷◌ (Passes test) (u ∷ us)) (rw e at h) (refl, e)
    go false e = absurd (fail≢ok (rw e at h))

pub token_sound : (n k : ℕ) (ts : List Token) {t : Token} {r : List Token} → consume n (is k) ts ≡ ok t r → Read ◌∷◌ (Is k) ts t r
token_sound n k ts {t} h = let q = consume_sound n (is k) ts h in (q.0, eqb-true t.kind k q.1)

pub consume_complete : (n : ℕ) (test : ℕ → Bool) (t : Token) (r : List Token) → Passes test t → consume n test (t ∷ r) ≡ ok t r
unfolding pick
consume_complete n test t r w = rw w

pub token_complete : (n k : ℕ) (t : Token) (r : List Token) → Is k t → consume n (is k) (t ∷ r) ≡ ok t r
token_complete n k t r w = consume_complete n (is k) t r (eq-eqb t.kind k w)

module _ {A : Type 0} (test : ℕ → Bool) (rule : Token → List Token → Result A) where
  pub optional_sound : (y : A → List Token → List Token) (Wf : A → Type 0)
      → ((t : Token) (ts : List Token) (x : A) (r : List Token) → Passes test t → rule t ts ≡ ok x r → Read y Wf (t ∷ ts) x r)
      → (ts : List Token) {o : Option A} {r : List Token} → optional test rule ts ≡ ok o r → Read (optionally y) (IfAny Wf) ts o r
  optional_sound y Wf sound [] h = along (Read (optionally y) (IfAny Wf) []) h (refl, tt)
  optional_sound y Wf sound (t ∷ ts) {o} {r} h = go (test t.kind) refl
    where
      go : (b : Bool) → test t.kind ≡ b → Read (optionally y) (IfAny Wf) (t ∷ ts) o r
      go false e = along (Read (optionally y) (IfAny Wf) (t ∷ ts)) (rw (e, optional) at h) (refl, tt)
      go true e =
          and_then_ok (rule t ts) _ (rw (e, optional) at h) λ x s p q.
          along (Read (optionally y) (IfAny Wf) (t ∷ ts)) q (sound t ts x s e p)

  pub optional_none : (r : List Token) → test (kind_at r) ≡ false → optional test rule r ≡ ok none r
  optional_none [] h = refl
  optional_none (t ∷ ts) h = rw (h, optional)

  pub optional_some : (t : Token) (ts : List Token) (x : A) (r : List Token) → Passes test t → rule t ts ≡ ok x r
      → optional test rule (t ∷ ts) ≡ ok (some x) r
  optional_some t ts x r w h = rw (w, optional) (rw h)

-- an optional token
pub optional_token_sound : (test : ℕ → Bool) (ts : List Token) {o : Option Token} {r : List Token} → optional test ok ts ≡ ok o r
    → Read (optionally ◌∷◌) (IfAny (Passes test)) ts o r
optional_token_sound test = optional_sound test ok ◌∷◌ (Passes test) λ t ts x r e p. along (Read ◌∷◌ (Passes test) (t ∷ ts)) p (refl, e)

pub optional_token_complete : (test : ℕ → Bool) (o : Option Token) (r : List Token) → IfAny (Passes test) o → test (kind_at r) ≡ false
    → optional test ok (optionally ◌∷◌ o r) ≡ ok o r
optional_token_complete test none r w h = optional_none test ok r h
optional_token_complete test (some t) r w h = optional_some test ok t r t r w refl

-- of one kind
pub passes_is : (k : ℕ) (o : Option Token) → IfAny (Is k) o → IfAny (Passes (is k)) o
passes_is k none w = tt
passes_is k (some t) w = eq-eqb t.kind k w

pub is_passes : (k : ℕ) (o : Option Token) → IfAny (Passes (is k)) o → IfAny (Is k) o
is_passes k none w = tt
is_passes k (some t) w = eqb-true t.kind k w

-- a run of tokens
pub front_sound : (k : ℕ) (ts : List Token) → Read (each ◌∷◌) (All (Is k)) ts (front (is k) ts) (skip (is k) ts)
front_sound k [] = (refl, tt)
front_sound k (t ∷ ts) = go (is k t.kind) refl (front_sound k ts)
  where
    go : (b : Bool) → is k t.kind ≡ b → Read (each ◌∷◌) (All (Is k)) ts (front (is k) ts) (skip (is k) ts)
        → Read (each ◌∷◌) (All (Is k)) (t ∷ ts) (front (is k) (t ∷ ts)) (skip (is k) (t ∷ ts))
    go true e ih = rw (e, front, skip) (ap (◌∷◌ t) ih.0, (eqb-true t.kind k e, ih.1))
    go false e ih = rw (e, front, skip) (refl, tt)

pub front_complete : (k : ℕ) (is' r : List Token) → All (Is k) is' → is k (kind_at r) ≡ false
    → (front (is k) (each ◌∷◌ is' r) ≡ is') × (skip (is k) (each ◌∷◌ is' r) ≡ r)
front_complete k [] [] w h = (refl, refl)
front_complete k [] (t ∷ ts) w h = rw (h, front, skip) (refl, refl)
front_complete k (i ∷ is') r w h =
    let ih = front_complete k is' r w.1 h in
    rw (eq-eqb i.kind k w.0, front, skip) (ap (◌∷◌ i) ih.0, ih.1)

-- one run of parts, then another
module _ {A : Type 0} (P : A → Type 0) where
  pub all_append : (xs ys : List A) → All P xs → All P ys → All P (xs ++ ys)
  all_append [] ys v w = w
  all_append (x ∷ xs) ys v w = (v.0, all_append xs ys v.1 w)

module _ {A : Type 0} (y : A → List Token → List Token) (Wf : A → Type 0) where
  each_append : (xs ys : List A) (r : List Token) → each y xs (each y ys r) ≡ each y (xs ++ ys) r
  each_append [] ys r = refl
  each_append (x ∷ xs) ys r = ap (y x) (each_append xs ys r)

  pub read_join : (xs ys : List A) (ts s r : List Token) → Read (each y) (All Wf) ts xs s → Read (each y) (All Wf) s ys r
      → Read (each y) (All Wf) ts (xs ++ ys) r
  read_join xs ys ts s r p q = (p.0 ∙ ap (each y xs) q.0 ∙ each_append xs ys r, all_append Wf xs ys p.1 q.1)
