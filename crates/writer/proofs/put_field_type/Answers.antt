-- `writer::put_field_type` meets its contract.
use Rattle.text.specs.Text.{field_type}
use Rattle.text.proofs.Laws.{chosen}
use Rattle.writer.proofs.put_field_type.Goals as goal

pub is_unit-requires : goal.is_unit-requires
is_unit-requires c = c.requires.stands

pub returns-then-not-is_unit : goal.returns-then-not-is_unit
unfolding field_type
returns-then-not-is_unit c = rw (← c.is_unit.ensures) (search chosen)

pub returns-else-not-is_unit : goal.returns-else-not-is_unit
unfolding field_type
returns-else-not-is_unit c = rw (← c.is_unit.ensures) (search chosen)
