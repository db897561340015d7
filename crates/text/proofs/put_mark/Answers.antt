-- `text::put_mark` meets its contract.
use Rattle.text.specs.Text.{mark}
use Rattle.text.proofs.Laws.{chosen}
use Rattle.text.proofs.put_mark.Goals as goal

pub returns-then-later : goal.returns-then-later
unfolding mark
returns-then-later c = search chosen

pub returns-else-later : goal.returns-else-later
unfolding mark
returns-else-later c = search chosen
