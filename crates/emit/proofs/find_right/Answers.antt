use borrow.Author.Rules.{rules}
use Rattle.places.proofs.Gathered.{stepped_less}
use Rattle.emit.proofs.Walks.{found_end}
use Rattle.emit.proofs.find_right.Goals as goal

pub loop-c-smaller : goal.loop-c-smaller
loop-c-smaller c = stepped_less c.next-c.ensures

pub returns-in-None : goal.returns-in-None
returns-in-None c = found_end c.loop-c.invariant (search rules)
