-- `text::put_import` meets its contract.
use Rattle.text.specs.Text.{import_text}
use Rattle.text.proofs.Laws.{chosen}
use Rattle.text.proofs.put_import.Goals as goal

pub returns-then-is_inferred : goal.returns-then-is_inferred
unfolding import_text
returns-then-is_inferred c = rw (← c.is_inferred.ensures) (search chosen)

pub returns : goal.returns
unfolding import_text
returns c = rw (← c.is_inferred.ensures) (search chosen)
