use Rattle.wire.proofs.Puts.{then}
use Rattle.records.proofs.put_sized.Goals as goal

pub returns : goal.returns
returns c = then c.put_u16.ensures c.put_slice.ensures
