use Rattle.std.proofs.Common.{arith}
use Rattle.wire.proofs.Numbers.{le_at_halves}
use Rattle.wire.proofs.u64_at.Goals as goal

pub returns : goal.returns
returns c = omega (arith, le_at_halves 4 4 c.args.s.now c.args.at (omega arith))
