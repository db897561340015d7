-- `writer::put_fields` meets its contract.
use Prim.Native.Nat.{◌-◌}
use lib.ListN.{length}
use Rattle.writer.proofs.Fields.{Fielding}
use Rattle.writer.proofs.put_fields.Given as goal

abbrev pub invariant-loop-at : goal.invariant-loop-at
invariant-loop-at l = Fielding l.t l.from l.initial.w l.w l.at l.commented

abbrev pub decreases-loop-at : goal.decreases-loop-at
decreases-loop-at l = length l.t - l.at
