-- `identifier::tables::class_table`: the static holds its rule.
use Rattle.identifier.proofs.Table.{classes}
use Rattle.identifier.proofs.tables.class_table.Goals as goal

pub returns : goal.returns
returns c = classes
