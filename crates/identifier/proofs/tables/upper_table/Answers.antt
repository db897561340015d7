-- `identifier::tables::upper_table`: the static holds its rule.
use Rattle.identifier.proofs.Table.{uppers}
use Rattle.identifier.proofs.tables.upper_table.Goals as goal

pub returns : goal.returns
returns c = uppers
