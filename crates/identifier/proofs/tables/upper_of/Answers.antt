-- `identifier::tables::upper_of`: the table's rule at this byte.
use borrow.Author.Rules.{rules}
use Rattle.identifier.proofs.Table.{upper_at}
use Rattle.identifier.proofs.tables.upper_of.Goals as goal

pub returns : goal.returns
returns c = upper_at c.args.b (search rules)
