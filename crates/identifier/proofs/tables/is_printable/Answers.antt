-- `identifier::tables::is_printable`: the test of a byte is a comparison of its class.
use borrow.Author.Rules.{rules}
use Rattle.identifier.proofs.Table.{class_printable}
use Rattle.identifier.proofs.tables.is_printable.Goals as goal

pub returns : goal.returns
returns c = rw (c.class_of.ensures, class_printable c.args.b (search rules))
