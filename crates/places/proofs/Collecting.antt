-- The imports, collected one by one.
use Prim.Native.Nat.{ℕ, ◌+◌, ◌≤◌, ◌<◌}
use mathlib.Core.Path.{◌≡◌, refl, sym, ap, ◌∙◌}
use mathlib.Core.Bool.{Bool, true, false, not, ◌&&◌, ◌||◌, and-false, or-false, or_assoc}
use mathlib.Core.List.{List, [], ◌∷◌, ◌++◌, append-nil}
use native.Mathlib.Numerals.{add-one}
use native.Mathlib.Omega.{arith}
use lib.ListN.{length, take, length-set}
use lib.Seq.{take-suc-set, append_snoc}
use lib.Dec.{eqb}
use borrow.Author.Tests.{eqb-true}
use Rattle.wire.specs.Bytes.{Bytes}
use Rattle.token.specs.Kind.{k_import}
use Rattle.token.specs.Token.{Token}
use Rattle.token.specs.Places.{tok_at, Wf}
use Rattle.token.proofs.Walk.{next_past, tokens_step}
use Rattle.grammar.specs.Tree.{ImportTree}
use Rattle.grammar.specs.Meaning.{found_name}
use Rattle.grammar.specs.Error.{kind_at}
use Rattle.grammar.specs.Condition.{any_of}
use Rattle.grammar.specs.Reading.{Result, ok, fail, is, parse_import}
use Rattle.grammar.proofs.Left.{left, import_left}
use Rattle.parser.specs.Trees as trees
use Rattle.parser.specs.Steps.{ahead, past, Reads, ImportPassed}
use Rattle.parser.specs.declared.Cursor.{Cursor}
use Rattle.parser.specs.declared.ImportPlaces.{ImportPlaces}
use Rattle.parser.proofs.Laws.{inside}
use Rattle.sorted.specs.Item.{import_at, place_of, IsToken, IsImport, NamedAt}
use Rattle.places.specs.Filling.{Pushes}
use Rattle.places.specs.declared.Filling.{Filling}
use Rattle.places.specs.Imports.{Keyword, Imports, none, read, dropped, lacks_name, Walks}

-- some number passes a test: the last one, or one before it
any_snoc : (p : ℕ → Bool) (xs : List ℕ) (x : ℕ) → any_of p (xs ++ (x ∷ [])) ≡ (any_of p xs || p x)
any_snoc p [] x = or-false (p x)
any_snoc p (y ∷ ys) x = ap (p y ||◌) (any_snoc p ys x) ∙ sym (or_assoc (p y) (any_of p ys) (p x))

flags : (a b c : Bool) → ((a && not b) && not c) ≡ (a && not (b || c))
flags true true c = refl
flags true false c = refl
flags false b c = refl

pub later : {A : Type 0} {t : Bytes} {c : Cursor} {rule out : List Token → Result A} {d : Cursor} → Reads t (past t c) rule out d → c.at < d.at
later {t = t} {c = c} p = omega (arith, p.onward, next_past t c.at)

-- the imports from `from` on are read up to c: what is read from c on follows what fills f
pub record Collecting (t : Bytes) (from : Cursor) (f₀ f : Filling) (sound : Bool) (c : Cursor) : Type 0 where
  pub same : f.list.ghost_name ≡ f₀.list.ghost_name
  pub wf : Wf t c.at
  pub whole : Bool
  pub walk : (b : Bool) (xs : List ℕ) (end : ℕ) → Imports t c.at b xs end → Imports t from.at (b && whole) (take f.count f.list.now ++ xs) end
  pub sound_is : sound ≡ (whole && not (any_of (lacks_name t) (take f.count f.list.now)))
  pub short : f.count + length (ahead t c) ≤ length (ahead t from)
  pub room : length (ahead t from) ≤ length f.list.now

module _ {t : Bytes} {from : Cursor} {f₀ f : Filling} {sound : Bool} {c : Cursor} (g : Collecting t from f₀ f sound c) where
  pub collected : is k_import (kind_at (ahead t c)) ≡ false → (items : List ℕ) → items ≡ f.list.now
      → Walks t from items (record { sound = sound; count = f.count; next = c })
  collected k items i =
      rw i (record {
        few = omega (arith, g.short, g.room);
        short = omega (arith, g.short);
        whole = g.whole;
        walk = rw (append-nil (take f.count f.list.now)) at (g.walk true [] c.at (none k));
        sound = g.sound_is;
        wf = g.wf;
      })

  -- `import` stands at c
  module _ (k : is k_import (kind_at (ahead t c)) ≡ true) where
    pub here : IsToken t c.at
    here = (g.wf, inside t c.at (omega (arith, eqb-true _ k_import k)))

    first : ahead t c ≡ tok_at t c.at ∷ ahead t (past t c)
    first = tokens_step t c.at here.1

    keyword : Keyword t c.at
    keyword = record { token = here; kind = rw first at (eqb-true _ k_import k) }

    pub collect_room : f.count < length f.list.now
    collect_room = omega (arith, g.short, g.room, ap length first)

    fewer : (m : Result ImportTree) → parse_import (tok_at t c.at) (ahead t (past t c)) ≡ m → length (left m) < length (ahead t c)
    fewer m p =
        let l = rw p at (import_left (tok_at t c.at) (length (ahead t (past t c))) (ahead t (past t c)) (omega arith)) in
        rw first (omega arith)

    pub collect_none : {number : ℕ} {d : Cursor} → Reads t (past t c) (parse_import (tok_at t c.at)) (fail number) d → Collecting t from f₀ f false d
    collect_none {number} {d} p =
        record {
          same = g.same;
          wf = p.wf;
          whole = false;
          walk = λ b xs end m. rw (and-false b) (g.walk false xs end (dropped keyword number p.gives p.wf (later p) m));
          sound_is = refl;
          short = omega (arith, g.short, fewer (fail number (ahead t d)) p.gives);
          room = g.room;
        }

    module _ {i : ImportPlaces} {d : Cursor} (p : ImportPassed t c i d) where
      abbrev pub import_here : IsImport t c.at
      import_here = record { token = here; tree = trees.import_at t i; rest = ahead t d; read = p.read.gives }

      -- the flag, by the name of the item
      pub collect_one : {x : ℕ} {name : Bytes} {f' : Filling} → NamedAt t c.at x → name ≡ found_name (import_at t (place_of x)) → Pushes f x f'
          → Collecting t from f₀ f' (sound && not (eqb (length name) 0)) d
      unfolding lacks_name
      collect_one {x} {name} {f'} a e q =
          let h : take f'.count f'.list.now ≡ take f.count f.list.now ++ (x ∷ []) =
          rw (q.count, q.list, add-one, take-suc-set f.list.now f.count x collect_room) in
          let l = ap length q.list ∙ length-set f.list.now f.count x in
          record {
            same = q.same ∙ g.same;
            wf = p.read.wf;
            whole = g.whole;
            walk = λ b xs end m. rw (h, append_snoc (take f.count f.list.now) x xs)
                (g.walk b (x ∷ xs) end (read keyword a import_here refl p.read.wf (later p.read) m));
            sound_is = rw (h, any_snoc (lacks_name t) (take f.count f.list.now) x, g.sound_is, e) (flags g.whole _ _);
            short = omega (arith, g.short, q.count, fewer (ok (trees.import_at t i) (ahead t d)) p.read.gives);
            room = omega (arith, g.room, l);
          }
