-- Four numbers, one after the other.
use Rattle.wire.specs.Record.{head_bytes}
use Rattle.wire.proofs.Puts.{then}
use Rattle.wire.proofs.Writer.put_head.Goals as goal

pub returns : goal.returns
unfolding head_bytes
returns c = then (then (then c.put_u16.ensures c.put_u16-2.ensures) c.put_u32.ensures) c.put_u32-2.ensures
