use Prim.Native.Nat.{◌-◌}
use lib.ListN.{length}
use Rattle.emit.proofs.Walks.{Finding}
use Rattle.emit.proofs.find_right.Given as goal

abbrev pub invariant-loop-c : goal.invariant-loop-c
invariant-loop-c l = Finding l.t l.initial.c l.c

abbrev pub decreases-loop-c : goal.decreases-loop-c
decreases-loop-c l = length l.t - l.c.at
