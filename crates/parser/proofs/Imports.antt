-- Imports: the path, then the name after `as` where there is one.
use Prim.Native.Nat.{ℕ}
use mathlib.Core.Path.{◌≡◌, refl, subst}
use mathlib.Core.Bool.{true}
use mathlib.Core.List.{List}
use Rattle.std.specs.Prelude.{Some}
use Rattle.wire.specs.Bytes.{Bytes}
use Rattle.token.specs.Token.{Token}
use Rattle.token.specs.Kind.{k_as, k_identifier, k_path}
use Rattle.token.specs.Places.{tok_at}
use Rattle.grammar.specs.Error.{kind_at}
use Rattle.grammar.specs.Tree.{ImportTree}
use Rattle.grammar.specs.Reading.{Result, fail, is, consume, parse_alias, parse_import}
use Rattle.parser.specs.Steps.{ahead, past, Stepped, Reads, TokenPassed, ImportPassed}
use Rattle.parser.specs.declared.Cursor.{Cursor}
use Rattle.parser.proofs.Laws.{then, stop, done, present, broken}

module _ {t : Bytes} {c path : Cursor} (s : Stepped t c path) where
  from_keyword : {rule out : List Token → Result ImportTree} {d : Cursor} → Reads t path rule out d → Reads t (past t c) rule out d
  from_keyword {rule} {out} {d} h = subst (λ (n : ℕ). Reads t (record { at = n }) rule out d) s.place h

  module _ {alias : Cursor} (p : TokenPassed t path (consume 6 (is k_path)) alias) where
    module _ {name : Cursor} (a : Stepped t alias name) (e : is k_as (kind_at (ahead t alias)) ≡ true) where
      pub alias_fails : {n : ℕ} {d : Cursor} → Reads t name (consume 7 (is k_identifier)) (fail n) d
          → Reads t (past t c) (parse_import (tok_at t c.at)) (fail n) d
      alias_fails r = from_keyword (then _ p.read (stop _ (broken (is k_as) parse_alias a e (stop _ r))))

      pub aliased : {after : Cursor} → TokenPassed t name (consume 7 (is k_identifier)) after
          → ImportPassed t c (record { first = c.at; path = path.at; alias = Some name.at }) after
      aliased q =
          record {
            read = rw (← p.place) (from_keyword (then _ p.read (then _ (present (is k_as) parse_alias a e (then _ q.read (done q.read.wf)))
                (done q.read.wf))));
            stands = record { first = s.here; path = p.here; last = q.here };
            laid = rw (← s.place, ← p.place, ← a.place);
            first = refl;
            last = refl;
          }
