use Rattle.wire.proofs.Puts.{then}
use Rattle.records.proofs.Described.put.Goals as goal

pub returns : goal.returns
returns c = then c.put_sized.ensures c.put_counted.ensures
