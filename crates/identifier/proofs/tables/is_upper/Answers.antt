-- `identifier::tables::is_upper`: the test of a byte is a comparison of its class.
use borrow.Author.Rules.{rules}
use Rattle.identifier.proofs.Table.{class_upper}
use Rattle.identifier.proofs.tables.is_upper.Goals as goal

pub returns : goal.returns
returns c = rw (c.class_of.ensures, class_upper c.args.b (search rules))
