-- `names::store_relative`: what stands after the common start is stored and counted.
use Rattle.names.proofs.Shared.{relative_stored}
use Rattle.names.proofs.store_relative.Goals as goal

pub returns : goal.returns
returns c = relative_stored c.common.result.1.good c.common.ensures c.count_names.ensures c.in_ok-size.ensures
