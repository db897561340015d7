-- `text::put_blank` meets its contract.
use Rattle.text.specs.Text.{blank}
use Rattle.text.proofs.Laws.{chosen}
use Rattle.text.proofs.put_blank.Goals as goal

pub returns-then-b : goal.returns-then-b
unfolding blank
returns-then-b c = search chosen

pub returns-else-b : goal.returns-else-b
unfolding blank
returns-else-b c = search chosen
