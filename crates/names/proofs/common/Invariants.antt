-- `names::common`: the names before what is left of the two are the same (`Shared`).
use lib.ListN.{length}
use Rattle.names.proofs.Shared.{Shared}
use Rattle.names.proofs.common.Given as goal

abbrev pub invariant-loop-x : goal.invariant-loop-x
invariant-loop-x l = Shared l.fn.a.bytes.now l.fn.b.bytes.now l.one l.other

abbrev pub decreases-loop-x : goal.decreases-loop-x
decreases-loop-x l = length l.one
