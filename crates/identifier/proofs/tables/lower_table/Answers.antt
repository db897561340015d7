-- `identifier::tables::lower_table`: the static holds its rule.
use Rattle.identifier.proofs.Table.{lowers}
use Rattle.identifier.proofs.tables.lower_table.Goals as goal

pub returns : goal.returns
returns c = lowers
