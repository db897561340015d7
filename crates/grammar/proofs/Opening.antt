-- The first comment: the reader's test gives it to whom the grammar does.
use Prim.Native.Nat.{◌+◌}
use mathlib.Core.Path.{◌≡◌, refl, sym, ◌∙◌}
use mathlib.Core.Bool.{Bool, true, false, true≢false}
use mathlib.Core.Option.{Option, none, some}
use mathlib.Core.List.{List, [], ◌∷◌}
use native.Mathlib.Omega.{arith}
use lib.Dec.{eqb, ltb}
use borrow.Author.Tests.{eqb-true, eq-eqb, ltb-true, ltb-false}
use Rattle.token.specs.Token.{Token}
use Rattle.token.specs.Kind.{is_keyword, k_comment}
use Rattle.grammar.specs.Tree.{optionally, Attached, WfOpening}
use Rattle.grammar.specs.Reading.{Reading, is_opening, parse_opening}

pub record Opened (ts : List Token) (p : Reading (Option Token)) : Type 0 where
  pub tokens : ts ≡ optionally ◌∷◌ p.value p.rest
  pub wf : WfOpening p.value p.rest

-- the reader's test says whose the first token is
opens : (c : Token) (r : List Token) → is_opening (c ∷ r) ≡ true → WfOpening (some c) r
opens c [] h = (eqb-true c.kind k_comment h, λ n. n)
opens c (t ∷ ts) h = go (eqb c.kind k_comment) (is_keyword t.kind) (ltb (c.end + 1) t.start) refl refl refl
  where
    go : (x y z : Bool) → eqb c.kind k_comment ≡ x → is_keyword t.kind ≡ y → ltb (c.end + 1) t.start ≡ z → WfOpening (some c) (t ∷ ts)
    go false y z e f g = absurd (true≢false (sym (rw e at h)))
    go true false z e f g = (eqb-true c.kind k_comment e, λ a. true≢false (sym a.0 ∙ f))
    go true true true e f g = (eqb-true c.kind k_comment e, λ a. omega (arith, ltb-true (c.end + 1) t.start g, a.1))
    go true true false e f g = absurd (true≢false (sym (rw (e, f, g) at h)))

shuts : (ts : List Token) → is_opening ts ≡ false → WfOpening none ts
shuts [] h = tt
shuts (c ∷ []) h = λ e. absurd (true≢false (sym (eq-eqb c.kind k_comment e) ∙ h))
shuts (c ∷ t ∷ ts) h = λ e. go (is_keyword t.kind) (ltb (c.end + 1) t.start) refl refl (eq-eqb c.kind k_comment e)
  where
    go : (y z : Bool) → is_keyword t.kind ≡ y → ltb (c.end + 1) t.start ≡ z → eqb c.kind k_comment ≡ true → Attached c (t ∷ ts)
    go false z f g e = absurd (true≢false (rw (e, f) at h))
    go true true f g e = absurd (true≢false (rw (e, f, g) at h))
    go true false f g e = (f, ltb-false (c.end + 1) t.start g)

opens_back : (c : Token) (r : List Token) → WfOpening (some c) r → is_opening (c ∷ r) ≡ true
opens_back c r w = go (is_opening (c ∷ r)) refl
  where
    go : (b : Bool) → is_opening (c ∷ r) ≡ b → is_opening (c ∷ r) ≡ true
    go true e = e
    go false e = absurd (w.1 (shuts (c ∷ r) e w.0))

shuts_back : (ts : List Token) → WfOpening none ts → is_opening ts ≡ false
shuts_back [] w = refl
shuts_back (t ∷ ts) w = go (is_opening (t ∷ ts)) refl
  where
    go : (b : Bool) → is_opening (t ∷ ts) ≡ b → is_opening (t ∷ ts) ≡ false
    go false e = e
    go true e = let o = opens t ts e in absurd (o.1 (w o.0))

pub opening_sound : (ts : List Token) → Opened ts (parse_opening ts)
opening_sound [] = record { tokens = refl; wf = tt }
opening_sound (t ∷ ts) = go (is_opening (t ∷ ts)) refl
  where
    go : (b : Bool) → is_opening (t ∷ ts) ≡ b → Opened (t ∷ ts) (parse_opening (t ∷ ts))
    go true e = rw (e, parse_opening) (record { tokens = refl; wf = opens t ts e })
    go false e = rw (e, parse_opening) (record { tokens = refl; wf = shuts (t ∷ ts) e })

pub opening_complete : (c : Option Token) (r : List Token) → WfOpening c r
    → parse_opening (optionally ◌∷◌ c r) ≡ record { errors = []; value = c; rest = r }
opening_complete none [] w = refl
opening_complete none (t ∷ ts) w = rw (shuts_back (t ∷ ts) w, parse_opening)
opening_complete (some c) r w = rw (opens_back c r w, parse_opening)
