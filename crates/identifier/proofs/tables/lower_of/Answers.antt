-- `identifier::tables::lower_of`: the table's rule at this byte.
use borrow.Author.Rules.{rules}
use Rattle.identifier.proofs.Table.{lower_at}
use Rattle.identifier.proofs.tables.lower_of.Goals as goal

pub returns : goal.returns
returns c = lower_at c.args.b (search rules)
