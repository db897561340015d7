use Rattle.parser.proofs.Laws.{inside, stepped}
use Rattle.parser.proofs.next.Goals as goal

pub next_at-requires : goal.next_at-requires
next_at-requires c = (c.requires.0, inside _ _ c.requires.1)

pub returns : goal.returns
returns c = stepped c.requires.0 c.requires.1 c.next_at.ensures
