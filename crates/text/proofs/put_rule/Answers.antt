-- `text::put_rule` meets its contract.
use Rattle.wire.specs.Pick.{pick}
use Rattle.text.proofs.Laws.{chosen}
use Rattle.text.proofs.put_rule.Goals as goal

pub returns-in-0 : goal.returns-in-0
unfolding pick
returns-in-0 c = search chosen

pub returns-in-1 : goal.returns-in-1
unfolding pick
returns-in-1 c = rw c.in-1.is c.put_slice.ensures

pub returns-in_default : goal.returns-in_default
unfolding pick
returns-in_default c = search chosen
