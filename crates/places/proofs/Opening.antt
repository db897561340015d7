-- The schema's comment, by the tests of the first two tokens.
use Prim.Native.Nat.{◌+◌, ◌≤◌, ◌<◌}
use mathlib.Core.Path.{◌≡◌, refl, ap}
use mathlib.Core.Bool.{true, false}
use mathlib.Core.Option.{Option, none, some}
use mathlib.Core.List.{List, [], ◌∷◌}
use native.Mathlib.Omega.{arith}
use lib.ListN.{length}
use borrow.Author.Tests.{eqb-true, ne_eqb, lt-ltb, le-ltb}
use Rattle.std.specs.Prelude.{None, Some}
use Rattle.wire.specs.Bytes.{Bytes}
use Rattle.token.specs.Token.{Token}
use Rattle.token.specs.Kind.{is_keyword, k_comment}
use Rattle.token.specs.Places.{tok_at, next_at, tokens_from, Wf}
use Rattle.token.proofs.Walk.{tokens_step}
use Rattle.grammar.specs.Error.{kind_at}
use Rattle.grammar.specs.Reading.{Reading, is, is_opening, parse_opening}
use Rattle.parser.specs.Steps.{ahead, Stands, Stepped}
use Rattle.parser.specs.declared.Cursor.{Cursor}
use Rattle.parser.proofs.Laws.{inside, some_kind}
use Rattle.places.specs.Imports.{Opening}

abbrev unopened : List Token → Reading (Option Token)
unopened ts = record { errors = []; value = none; rest = ts }

-- the first token is no comment
no_comment : (ts : List Token) → (kind_at ts ≡ k_comment → ⊥) → parse_opening ts ≡ unopened ts
no_comment [] n = refl
no_comment (x ∷ []) n = rw (ne_eqb x.kind k_comment n, parse_opening)
no_comment (x ∷ y ∷ ts) n = let e : is_opening (x ∷ y ∷ ts) ≡ false = rw (ne_eqb x.kind k_comment n) in rw (e, parse_opening)

-- it is a comment, and the next token is not `struct` or `choice`, or is
module _ (x : Token) (c : is k_comment x.kind ≡ true) where
  alone : (ts : List Token) → is_keyword (kind_at ts) ≡ false → parse_opening (x ∷ ts) ≡ record { errors = []; value = some x; rest = ts }
  alone [] n = rw (c, parse_opening)
  alone (y ∷ ts) n = let e : is_opening (x ∷ y ∷ ts) ≡ true = rw (c, n) in rw (e, parse_opening)

  module _ (y : Token) (ts : List Token) (k : is_keyword y.kind ≡ true) where
    far : x.end + 1 < y.start → parse_opening (x ∷ y ∷ ts) ≡ record { errors = []; value = some x; rest = y ∷ ts }
    far h = let e : is_opening (x ∷ y ∷ ts) ≡ true = rw (c, k, lt-ltb (x.end + 1) y.start h) in rw (e, parse_opening)

    near : y.start ≤ x.end + 1 → parse_opening (x ∷ y ∷ ts) ≡ unopened (x ∷ y ∷ ts)
    near h = let e : is_opening (x ∷ y ∷ ts) ≡ false = rw (c, k, le-ltb (x.end + 1) y.start h) in rw (e, parse_opening)

-- the first token is not the schema's comment
unopening : {t : Bytes} → Wf t 0 → parse_opening (tokens_from t 0) ≡ unopened (tokens_from t 0) → Opening t (None, record { at = 0 })
unopening w e = record { read = e; comment = tt; place = refl; short = omega arith; wf = w }

pub not_opened : {t : Bytes} → Wf t 0 → (kind_at (tokens_from t 0) ≡ k_comment → ⊥) → Opening t (None, record { at = 0 })
not_opened {t} w n = unopening w (no_comment (tokens_from t 0) n)

module _ {t : Bytes} {d : Cursor} (c : is k_comment (kind_at (tokens_from t 0)) ≡ true) (p : Stepped t (record { at = 0 }) d) where
  kind : is k_comment (tok_at t 0).kind ≡ true
  kind = rw p.first at c

  opening : parse_opening (tok_at t 0 ∷ ahead t d) ≡ record { errors = []; value = some (tok_at t 0); rest = ahead t d } → Opening t (Some 0, d)
  opening e =
      record { read = rw p.first e; comment = (p.here, eqb-true _ _ kind); place = refl; short = omega (arith, ap length p.first); wf = p.wf }

  pub opened_alone : is_keyword (kind_at (ahead t d)) ≡ false → Opening t (Some 0, d)
  opened_alone n = opening (alone (tok_at t 0) kind (ahead t d) n)

  module _ (k : is_keyword (kind_at (ahead t d)) ≡ true) where
    pub second_stands : Stands t d.at
    second_stands = (p.wf, inside t d.at (some_kind is_keyword (kind_at (ahead t d)) refl k))

    second : ahead t d ≡ tok_at t d.at ∷ tokens_from t (next_at t d.at)
    second = tokens_step t d.at second_stands.1

    pub opened_far : (tok_at t 0).end + 1 < (tok_at t d.at).start → Opening t (Some 0, d)
    opened_far h = opening (rw second (far (tok_at t 0) kind (tok_at t d.at) (tokens_from t (next_at t d.at)) (rw second at k) h))

    pub opened_near : Wf t 0 → (tok_at t d.at).start ≤ (tok_at t 0).end + 1 → Opening t (None, record { at = 0 })
    opened_near w h =
        unopening w (rw (p.first, second) (near (tok_at t 0) kind (tok_at t d.at) (tokens_from t (next_at t d.at)) (rw second at k) h))
