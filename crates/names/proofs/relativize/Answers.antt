-- `names::relativize`: the names after the common start stored, or R10 by one of the two.
use Rattle.wire.proofs.Choice.{and_first, and_second}
use Rattle.names.proofs.Shared.{relative_bad}
use Rattle.names.proofs.relativize.Goals as goal

pub returns-in_err-checked : goal.returns-in_err-checked
returns-in_err-checked c =
    let f = c.in_err-checked.ensures in
    relative_bad _ (and_first _ _ f.0) c.from_residual.ensures.1 f.1

pub returns-in_err-checked-2 : goal.returns-in_err-checked-2
returns-in_err-checked-2 c =
    let f = c.in_err-checked-2.ensures in
    relative_bad _ (and_second _ _ f.0) c.from_residual-in_err-checked-2.ensures.1 f.1
