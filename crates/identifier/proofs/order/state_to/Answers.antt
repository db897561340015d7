-- `identifier::order::state_to`: the bytes before the place, folded.
use Rattle.std.proofs.Common.{rules}
use borrow.Author.Tests.{tests}
use lib.ListN.{take}
use Rattle.std.proofs.lemmas.Iterator.{YieldsList-from_slice}
use Rattle.std.proofs.lemmas.Iterator.Consumers.{fold_from_yields_List}
use Rattle.identifier.specs.Left.{state_after}
use Rattle.identifier.proofs.order.state_to.Goals as goal

pub returns : goal.returns
returns c =
    fold_from_yields_List _ state_after _ _ c.fold.ensures.ran (YieldsList-from_slice (take c.args.at c.args.name.now) cc) (λ s x r q k. search (rules, tests))
