-- `printed::put_spaced` meets its contract.
use Rattle.wire.proofs.Puts.{then}
use Rattle.printed.specs.Printed.{spaced}
use Rattle.printed.proofs.put_spaced.Goals as goal

pub returns : goal.returns
unfolding spaced
returns c = search then
