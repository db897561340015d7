-- `names::split_first_name`: each return by the cut that led there.
use Rattle.names.proofs.Walk.{cut_length, split_is}
use Rattle.names.proofs.split_first_name.Goals as goal

pub returns-in_err-size : goal.returns-in_err-size
returns-in_err-size c = rw c.from_residual.ensures (cut_length _ c.in_err-size.ensures.cases)

pub returns : goal.returns
returns c = split_is _ _ _ c.in_ok-size.ensures.cases c.u16_at.ensures _ c.split_at_checked-2.ensures.cases
