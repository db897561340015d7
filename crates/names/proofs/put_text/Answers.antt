-- `names::put_text`: the snake forms of the names that are left are still to be put (`Texted`).
use Rattle.names.proofs.Dotted.{no_text, begun, next, ended}
use Rattle.names.proofs.put_text.Goals as goal

pub loop-name-init : goal.loop-name-init
loop-name-init c = rw c.into_iter-name-iterator.ensures.into_iter_gives (tt, tt, begun _ c.args.ns.good c.in-Some.ensures.steps c.put_snake.ensures)

pub loop-name-preserved : goal.loop-name-preserved
loop-name-preserved c = (tt, tt, next c.loop-name.invariant.2 c.in-Some-name.ensures.steps c.put_byte.ensures c.put_snake-in-loop-name.ensures)

pub returns-in-None : goal.returns-in-None
returns-in-None c = ended c.loop-name.invariant.2 c.in-None.ensures.steps.0

pub returns-in_default : goal.returns-in_default
returns-in_default c = no_text _ c.args.ns.good c.in_default.ensures.steps.0
