-- Fields: comment, rule, name, type, `=`, index, one after the other.
use Prim.Native.Nat.{ℕ}
use native.Mathlib.Omega.{arith}
use Rattle.std.specs.Prelude.{Option}
use Rattle.wire.specs.Bytes.{Bytes}
use Rattle.token.specs.Kind.{is_rule, k_comment, k_equals, k_identifier, k_integer}
use Rattle.token.specs.Places.{Wf}
use Rattle.token.proofs.Walk.{next_past}
use Rattle.grammar.specs.Reading.{is, consume}
use Rattle.parser.specs.Steps.{TokenPassed, Skipped, PartPassed, Stands, FieldPassed}
use Rattle.parser.specs.declared.Cursor.{Cursor}
use Rattle.parser.specs.declared.PartPlaces.{PartPlaces}
use Rattle.parser.proofs.Laws.{then, done, there_stands}

-- what was read up to the name
pub record Named (t : Bytes) (c : Cursor) (o x : Option ℕ × Cursor) (colon : Cursor) : Type 0 where
  pub wf : Wf t c.at
  pub comment : Skipped t c (is k_comment) o
  pub rule : Skipped t o.1 is_rule x
  pub name : TokenPassed t x.1 (consume 8 (is k_identifier)) colon

pub field : {t : Bytes} {c colon equals index after : Cursor} {o x : Option ℕ × Cursor} {part : Option PartPlaces} → Named t c o x colon
    → PartPassed t colon part equals → TokenPassed t equals (consume 12 (is k_equals)) index → TokenPassed t index (consume 13 (is k_integer)) after
    → FieldPassed t c
    (record { first = c.at; comment = o.0; rule = x.0; name = x.1.at; part = part; equals = equals.at; index = index.at })
    after
field {t} {c} {index = index} {o = o} n y e i =
    let begins : Stands t o.1.at = (n.comment.read.wf, omega (arith, n.rule.read.onward, n.name.here.1)) in
    let first : Stands t c.at = (n.wf, omega (arith, n.comment.read.onward, begins.1)) in
    record {
      read = then _ n.comment.read (then _ n.rule.read (then _ n.name.read (then _ y.read (then _ e.read (then _ i.read (done i.read.wf))))));
      stands = record {
        first = first;
        comment = there_stands n.comment first;
        rule = there_stands n.rule begins;
        name = n.name.here;
        part = y.stands;
        equals = e.here;
        index = i.here;
      };
      laid = rw (← n.comment.place, ← n.rule.place, ← n.comment.there, ← n.rule.there, ← n.name.place, ← y.laid, ← y.end, ← e.place);
      first = rw n.rule.first n.comment.first;
      eats = omega (
        arith,
        n.comment.read.onward,
        n.rule.read.onward,
        n.name.read.onward,
        y.read.onward,
        e.read.onward,
        i.place,
        next_past t index.at,
      );
    }
