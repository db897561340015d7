-- `writer::innermost` meets its contract.
use Prim.Native.Nat.{◌-◌}
use lib.ListN.{length}
use Rattle.writer.proofs.Types.{Deeper}
use Rattle.writer.proofs.innermost.Given as goal

abbrev pub invariant-loop-at : goal.invariant-loop-at
invariant-loop-at l = Deeper l.t l.from l.at

abbrev pub decreases-loop-at : goal.decreases-loop-at
decreases-loop-at l = length l.t - l.at
