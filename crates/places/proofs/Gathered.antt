-- The numbers of the Integers, gathered one by one.
use Prim.Native.Nat.{ℕ, ◌+◌, ◌-◌, ◌*◌, ◌≤◌, ◌<◌}
use mathlib.Core.Path.{◌≡◌, refl, sym, ap, ◌∙◌}
use mathlib.Core.Bool.{true, false}
use mathlib.Core.List.{List, [], ◌∷◌, ◌++◌, map, map-append, append-nil, append_assoc}
use native.Mathlib.Numerals.{add-one}
use native.Mathlib.Omega.{arith}
use lib.ListN.{length, take, length-set}
use lib.Seq.{take-suc-set}
use borrow.Author.Tests.{eqb-true, eq-eqb}
use Rattle.wire.specs.Bytes.{Bytes}
use Rattle.token.specs.Token.{Token}
use Rattle.token.specs.Kind.{k_integer}
use Rattle.token.specs.Places.{tok_at, next_at, tokens_from, Wf}
use Rattle.token.proofs.Walk.{integer_size, next_is, next_past, tokens_step}
use Rattle.grammar.specs.Error.{kind_at}
use Rattle.grammar.specs.Reading.{is, front, skip}
use Rattle.parser.specs.Steps.{ahead, Stepped}
use Rattle.parser.specs.declared.Cursor.{Cursor}
use Rattle.parser.proofs.Laws.{inside}
use Rattle.places.specs.Filling.{Pushes}
use Rattle.places.specs.declared.Filling.{Filling}
use Rattle.places.specs.Places.{number_at, IsInteger, Integers, Numbers}

-- the tokens at the places of a walk are the run of Integers there
front_stops : (ts : List Token) → is k_integer (kind_at ts) ≡ false → (front (is k_integer) ts ≡ []) × (skip (is k_integer) ts ≡ ts)
front_stops [] n = (refl, refl)
front_stops (x ∷ xs) n = rw (n, front, skip) (refl, refl)

front_step : (x : Token) (xs : List Token) → x.kind ≡ k_integer
    → (front (is k_integer) (x ∷ xs) ≡ x ∷ front (is k_integer) xs) × (skip (is k_integer) (x ∷ xs) ≡ skip (is k_integer) xs)
front_step x xs e = rw (eq-eqb x.kind k_integer e, front, skip) (refl, refl)

pub integers_tokens : (t : Bytes) (at : ℕ) (ps : List ℕ) → Integers t at ps → map (tok_at t) ps ≡ front (is k_integer) (tokens_from t at)
integers_tokens t at [] w = sym (front_stops (tokens_from t at) w).0
integers_tokens t at (p ∷ ps) w =
    rw (w.0, tokens_step t at w.1.1) (ap (tok_at t at ∷◌) (integers_tokens t (next_at t at) ps w.2)
    ∙ sym (front_step (tok_at t at) (tokens_from t (next_at t at)) w.1.2).0)

pub stepped_less : {t : Bytes} {c d : Cursor} → Stepped t c d → length t - d.at < length t - c.at
stepped_less {t} {c} p = omega (arith, p.place, next_past t c.at, p.here.1, p.wf.inside)

there : (ts : List Token) → kind_at ts ≡ k_integer → 0 < length ts
there [] k = absurd (omega arith)
there (x ∷ xs) k = omega arith

-- the numbers of the places before c are collected
pub record Gathering (t : Bytes) (from : Cursor) (f₀ f : Filling) (c : Cursor) : Type 0 where
  pub same : f.list.ghost_name ≡ f₀.list.ghost_name
  pub wf : Wf t c.at
  pub before : List ℕ
  pub walk : (ps : List ℕ) → Integers t c.at ps → Integers t from.at (before ++ ps)
  pub numbers : take f.count f.list.now ≡ map (number_at t) before
  pub rest : skip (is k_integer) (ahead t c) ≡ skip (is k_integer) (ahead t from)
  pub place : c.at ≡ from.at + 20 * f.count
  pub short : f.count + length (ahead t c) ≤ length (ahead t from)
  pub room : length (ahead t from) ≤ length f.list.now

module _ {t : Bytes} {from : Cursor} {f₀ f : Filling} {c : Cursor} (g : Gathering t from f₀ f c) where
  pub gathered : is k_integer (kind_at (ahead t c)) ≡ false → (items : List ℕ) → items ≡ f.list.now
      → Numbers t from items (record { count = f.count; next = c })
  gathered e items i =
      rw i (record {
        few = omega (arith, g.short, g.room);
        short = g.short;
        places = g.before;
        walk = rw (append-nil g.before) at (g.walk [] e);
        numbers = g.numbers;
        rest = sym (front_stops (ahead t c) e).1 ∙ g.rest;
        wf = g.wf;
        end = g.place;
      })

  module _ (k : is k_integer (kind_at (ahead t c)) ≡ true) where
    is_integer : kind_at (ahead t c) ≡ k_integer
    is_integer = eqb-true _ _ k

    pub integer_there : IsInteger t c.at
    integer_there = let l = inside t c.at (omega (arith, is_integer)) in (g.wf, l, rw (tokens_step t c.at l) at is_integer)

    pub gather_room : f.count < length f.list.now
    gather_room = omega (arith, g.short, g.room, there (ahead t c) is_integer)

    pub gather_more : {d : Cursor} {f' : Filling} → Stepped t c d → Pushes f (number_at t c.at) f' → Gathering t from f₀ f' d
    gather_more {d} {f'} p q =
        let i = integer_there in
        let s = front_step (tok_at t c.at) (ahead t d) i.2 in
        let l = ap length q.list ∙ length-set f.list.now f.count (number_at t c.at) in
        record {
          same = q.same ∙ g.same;
          wf = p.wf;
          before = g.before ++ (c.at ∷ []);
          walk = λ ps m. rw append_assoc (g.walk (c.at ∷ ps) (refl, i, rw p.place at m));
          numbers = rw (q.count, q.list, add-one, take-suc-set f.list.now f.count (number_at t c.at) gather_room, map-append, g.numbers);
          rest = rw (p.first, s.1) at g.rest;
          place = omega (arith, g.place, p.place, q.count, next_is i.0 i.1, integer_size i.0 i.1 i.2);
          short = omega (arith, g.short, q.count, ap length p.first);
          room = omega (arith, g.room, l);
        }
