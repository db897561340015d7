-- `identifier::tables::class_of`: the table's rule at this byte.
use borrow.Author.Rules.{rules}
use Rattle.identifier.proofs.Table.{class_at}
use Rattle.identifier.proofs.tables.class_of.Goals as goal

pub returns : goal.returns
returns c = class_at c.args.b (search rules)
