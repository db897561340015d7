-- `writer::put_declarations` meets its contract.
use Prim.Native.Nat.{◌-◌}
use lib.ListN.{length}
use Rattle.writer.proofs.Declarations.{Declaring}
use Rattle.writer.proofs.put_declarations.Given as goal

abbrev pub invariant-loop-at : goal.invariant-loop-at
invariant-loop-at l = Declaring l.t l.from l.imported l.initial.w l.w l.at l.parted

abbrev pub decreases-loop-at : goal.decreases-loop-at
decreases-loop-at l = length l.t - l.at
