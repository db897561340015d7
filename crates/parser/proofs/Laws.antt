-- Rules over a cursor: one token, one rule after the other, an optional part.
use Prim.Native.Nat.{ℕ, zero, suc, ◌≤◌, ◌<◌}
use mathlib.Core.Path.{◌≡◌, refl, sym, ap, subst, ◌∙◌}
use mathlib.Core.Bool.{Bool, true, false, true≢false}
use mathlib.Core.Option.{Option, none, some}
use mathlib.Core.List.{List, [], ◌∷◌}
use native.Mathlib.Omega.{arith}
use borrow.Author.Tests.{ltb-true, ltb-false, le-leb, ne_eqb}
use lib.Dec.{eqb, leb, ltb}
use lib.ListN.{length}
use Rattle.std.specs.Prelude.{Some, None, Result as Outcome, Ok, Err, IsErrAnd, MatchResult, Option as Places, IfSome, is_some}
use Rattle.wire.specs.Bytes.{Bytes}
use Rattle.std.proofs.lemmas.Bool.{lt-leb}
use Rattle.wire.specs.Pick.{pick}
use Rattle.token.specs.Token.{Token}
use Rattle.token.specs.Places.{tok_at, next_at, tokens_from, Wf}
use Rattle.token.proofs.Walk.{tokens_end, tokens_step, wf_good, wf_next, next_past}
use Rattle.grammar.specs.Error.{kind_at}
use Rattle.grammar.specs.Reading.{Result, ok, fail, and_then, consume, optional}
use Rattle.grammar.proofs.Rules.{consume_complete, optional_none}
use Rattle.parser.specs.Laid.{place_if}
use Rattle.parser.specs.Steps.{ahead, Stands, Stepped, Reads, TokenPassed, Skipped}
use Rattle.parser.specs.declared.Cursor.{Cursor}
use Rattle.parser.specs.declared.Failure.{Failure}

-- the kind ahead tells whether a token stands there
module _ (t : Bytes) (at : ℕ) where
  pub kind_there : at < length t → kind_at (tokens_from t at) ≡ (tok_at t at).kind
  kind_there h = ap kind_at (tokens_step t at h)

  pub kind_end : length t ≤ at → kind_at (tokens_from t at) ≡ 0
  kind_end h = ap kind_at (tokens_end t at h)

  pub inside : 0 < kind_at (tokens_from t at) → at < length t
  inside k = go (ltb at (length t)) refl
    where
      go : (b : Bool) → ltb at (length t) ≡ b → at < length t
      go true e = ltb-true at (length t) e
      go false e = absurd (omega (arith, kind_end (ltb-false at (length t) e)))

  pub none_left : Wf t at → kind_at (tokens_from t at) ≡ 0 → tokens_from t at ≡ []
  none_left w k = go (ltb at (length t)) refl
    where
      go : (b : Bool) → ltb at (length t) ≡ b → tokens_from t at ≡ []
      go true e = let h = ltb-true at (length t) e in absurd (omega (arith, kind_there h, (wf_good w h).sound.known.0))
      go false e = tokens_end t at (ltb-false at (length t) e)

  pub ended : Wf t at → leb (length t) at ≡ eqb (kind_at (tokens_from t at)) 0
  ended w = go (ltb at (length t)) refl
    where
      go : (b : Bool) → ltb at (length t) ≡ b → leb (length t) at ≡ eqb (kind_at (tokens_from t at)) 0
      go true e =
          let h = ltb-true at (length t) e in
          rw (lt-leb (length t) at h, kind_there h, ne_eqb (tok_at t at).kind 0 (omega (arith, (wf_good w h).sound.known.0)))
      go false e =
          let h = ltb-false at (length t) e in
          rw (le-leb (length t) at h, kind_end h)

-- a kind that passes a test which the end fails is a token's
pub some_kind : (test : ℕ → Bool) (k : ℕ) → test 0 ≡ false → test k ≡ true → 0 < k
some_kind test zero n y = absurd (true≢false (sym y ∙ n))
some_kind test (suc k) n y = omega arith

consume_fails : (n : ℕ) (test : ℕ → Bool) (ts : List Token) → test (kind_at ts) ≡ false → consume n test ts ≡ fail n ts
unfolding pick
consume_fails n test [] e = refl
consume_fails n test (t ∷ ts) e = rw e

-- One token.
module _ {t : Bytes} {c d : Cursor} where
  pub stepped : Wf t c.at → 0 < kind_at (ahead t c) → d.at ≡ next_at t c.at → Stepped t c d
  stepped w k e =
      let h = inside t c.at k in
      record { here = (w, h); first = rw e (tokens_step t c.at h); place = e; wf = rw e (wf_next w h) }

  pub consumed : (n : ℕ) (test : ℕ → Bool) → Stepped t c d → test (kind_at (ahead t c)) ≡ true → TokenPassed t c (consume n test) d
  consumed n test s e =
      record {
        read = record {
          gives = rw s.first (consume_complete n test _ _ (rw s.first at e));
          wf = s.wf;
          onward = omega (arith, s.place, next_past t c.at);
        };
        here = s.here;
        place = s.place;
      }

pub not_consumed : {t : Bytes} {c : Cursor} (n : ℕ) (test : ℕ → Bool) → Wf t c.at → test (kind_at (ahead t c)) ≡ false → Reads t c (consume n test) (fail n) c
not_consumed {t} {c} n test w e = record { gives = consume_fails n test (ahead t c) e; wf = w; onward = omega arith }

-- One rule after the other.
pub done : {A : Type 0} {t : Bytes} {c : Cursor} {out : List Token → Result A} → Wf t c.at → Reads t c out out c
done w = record { gives = refl; wf = w; onward = omega arith }

pub alike : {A : Type 0} {t : Bytes} {c d : Cursor} (rule rule' : List Token → Result A) {out : List Token → Result A} → rule' (ahead t c) ≡ rule (ahead t c)
    → Reads t c rule out d → Reads t c rule' out d
alike rule rule' e h = record { gives = e ∙ h.gives; wf = h.wf; onward = h.onward }

module _ {A B : Type 0} {t : Bytes} {c d : Cursor} {rule : List Token → Result A} (f : A → List Token → Result B) where
  pub then : {x : A} {out : List Token → Result B} {e : Cursor} → Reads t c rule (ok x) d → Reads t d (f x) out e → Reads t c (λ ts. and_then (rule ts) f) out e
  then p q = record { gives = rw p.gives q.gives; wf = q.wf; onward = omega (arith, p.onward, q.onward) }

  pub stop : {n : ℕ} → Reads t c rule (fail n) d → Reads t c (λ ts. and_then (rule ts) f) (fail n) d
  stop p = record { gives = rw p.gives; wf = p.wf; onward = p.onward }

-- A part that may be absent, by the test of its first token's kind.
pub absent : {A : Type 0} {t : Bytes} {c : Cursor} (test : ℕ → Bool) (rule : Token → List Token → Result A) → Wf t c.at → test (kind_at (ahead t c)) ≡ false
    → Reads t c (optional test rule) (ok none) c
absent {t = t} {c} test rule w e = record { gives = optional_none test rule (ahead t c) e; wf = w; onward = omega arith }

module _ {A : Type 0} {t : Bytes} {c d e : Cursor} (test : ℕ → Bool) (rule : Token → List Token → Result A) (s : Stepped t c d)
    (k : test (kind_at (ahead t c)) ≡ true) where
  begins : {out : List Token → Result (Option A)} → Reads t d (λ ts. and_then (rule (tok_at t c.at) ts) λ x r. ok (some x) r) out e
      → Reads t c (optional test rule) out e
  begins h =
      record {
        gives = rw s.first (rw (rw s.first at k, optional) h.gives);
        wf = h.wf;
        onward = omega (arith, s.place, h.onward, next_past t c.at);
      }

  pub present : {x : A} → Reads t d (rule (tok_at t c.at)) (ok x) e → Reads t c (optional test rule) (ok (some x)) e
  present h = begins (then _ h (done h.wf))

  pub broken : {n : ℕ} → Reads t d (rule (tok_at t c.at)) (fail n) e → Reads t c (optional test rule) (fail n) e
  broken h = begins (stop _ h)

-- what a `?` hands on fails as what it was told
pub handed : {X : Type 0} (P : X → Type 0) (Q : Failure → Type 0) (r : Outcome X Failure) (f : Failure) → IsErrAnd r (λ g. g ≡ f) → Q f → MatchResult r P Q
handed P Q (Ok x) f h q = absurd h
handed P Q (Err g) f h q = subst Q (sym h) q

-- a token alone
module _ {t : Bytes} {c : Cursor} (test : ℕ → Bool) where
  pub skipped : {d : Cursor} → Stepped t c d → test (kind_at (ahead t c)) ≡ true → Skipped t c test (Some c.at, d)
  skipped s e = record { read = present test ok s e (done s.wf); first = refl; there = refl; place = s.place }

  pub not_skipped : Wf t c.at → test (kind_at (ahead t c)) ≡ false → Skipped t c test (None, c)
  not_skipped w e = record { read = absent test ok w e; first = refl; there = refl; place = refl }

-- where the optional token stands, a token does
pub there_stands : {t : Bytes} {c : Cursor} {test : ℕ → Bool} {s : Places ℕ × Cursor} → Skipped t c test s → Stands t c.at → IfSome s.0 (Stands t)
there_stands {t} {c} {s = s} h k = rw h.there (stands_if t (is_some s.0) c.at k)
  where
    stands_if : (t : Bytes) (b : Bool) (at : ℕ) → Stands t at → IfSome (place_if b at) (Stands t)
    stands_if t true at h = h
    stands_if t false at h = tt
