-- `identifier::tables::is_break`: the test of a byte is two comparisons of its class.
use borrow.Author.Rules.{rules}
use Rattle.identifier.proofs.Table.{class_break}
use Rattle.identifier.proofs.tables.is_break.Goals as goal

pub returns-in-4 : goal.returns-in-4
returns-in-4 c = rw (class_break c.args.b (search rules), ← c.class_of.ensures) (search rules)

pub returns-in_default : goal.returns-in_default
returns-in_default c = rw (class_break c.args.b (search rules), ← c.class_of.ensures) (search rules)
