-- The last dot so far has been found (`Dotted`).
use Rattle.std.proofs.Common.{arith, refl}
use Rattle.stem.proofs.Laws.{dot, other, last}
use Rattle.stem.proofs.last_dot.Goals as goal
use Rattle.stem.proofs.last_dot.Goals.{then-b-eq46, else-b-eq46}

pub loop-i-init : goal.loop-i-init
loop-i-init c = record { within = omega arith; left = refl }

pub loop-i-preserved : goal.loop-i-preserved
loop-i-preserved c = elim c.if-b-eq46.branch [
  | then-b-eq46 w ↦ rw w.best-is (dot c.loop-i.invariant c.loop-i-test.true w.if-b-eq46.true)
  | else-b-eq46 w ↦ rw w.best-is (other c.loop-i.invariant c.loop-i-test.true w.if-b-eq46.false)
]

pub returns : goal.returns
returns c = last c.loop-i.invariant c.loop-i-test.false
