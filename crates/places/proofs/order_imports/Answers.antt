-- `places::order_imports` meets its contract: the imports are collected, then put in order.
use Rattle.places.proofs.Arranging.{ahead_room, sortable, ordered}
use Rattle.places.proofs.order_imports.Goals as goal

pub collect_imports-walked-requires : goal.collect_imports-walked-requires
collect_imports-walked-requires c = let o = c.skip_opening-comment.ensures in (o.wf, ahead_room o c.requires.1)

pub arrange-arranged-requires : goal.arrange-arranged-requires
arrange-arranged-requires c = sortable c.skip_opening-comment.ensures c.collect_imports-walked.ensures c.requires.1

pub returns : goal.returns
returns c = ordered c.skip_opening-comment.ensures c.collect_imports-walked.ensures c.arrange-arranged.ensures
