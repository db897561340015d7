use Prim.Native.Nat.{◌-◌}
use lib.ListN.{length}
use Rattle.emit.proofs.Walks.{Fielding}
use Rattle.emit.proofs.put_fields.Given as goal

abbrev pub invariant-loop-c : goal.invariant-loop-c
invariant-loop-c l = Fielding l.t l.initial.c l.initial.w l.w l.c

abbrev pub decreases-loop-c : goal.decreases-loop-c
decreases-loop-c l = length l.t - l.c.at
