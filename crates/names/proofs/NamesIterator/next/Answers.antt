-- `names::Names::next`: the first of the names that are left, or none.
use native.Mathlib.Omega.{arith}
use mathlib.Core.Path.{ap}
use lib.ListN.{length}
use Rattle.names.proofs.Walk.{whole_none, whole_next}
use Rattle.names.proofs.NamesIterator.next.Goals as goal

pub returns-in_err-name-clause-steps : goal.returns-in_err-name-clause-steps
returns-in_err-name-clause-steps c = let e = whole_none _ c.in_err-name.ensures in rw c.from_residual.ensures (e, e)

pub returns-clause-steps : goal.returns-clause-steps
returns-clause-steps c = whole_next c.in_ok-name.ensures

pub returns-clause-goes : goal.returns-clause-goes
returns-clause-goes c = record { on = λ f. (tt, tt, omega (arith, ap length (whole_next c.in_ok-name.ensures))); keeps = tt; rests = λ f. tt }
