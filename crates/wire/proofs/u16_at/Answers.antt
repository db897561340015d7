use Rattle.std.proofs.Common.{arith}
use Rattle.wire.proofs.Numbers.{u16_bytes}
use Rattle.wire.proofs.u16_at.Goals as goal

pub returns : goal.returns
returns c = omega (arith, c.from_le_bytes.ensures, u16_bytes c.args.s.now c.args.at c.requires)
