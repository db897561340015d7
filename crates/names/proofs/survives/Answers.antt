-- `names::survives`: whether the name is kept, or R10.
use Rattle.names.specs.Answer.{survival_of}
use Rattle.names.proofs.Answers.{refused, answered, short}
use Rattle.names.proofs.survives.Goals as goal

pub returns-in_err-check : goal.returns-in_err-check
unfolding survival_of
returns-in_err-check c = rw (← c.is_name.ensures) (refused _ _ c.from_residual.ensures.1 c.in_err-check.ensures)

pub is_kept-requires : goal.is_kept-requires
is_kept-requires c = short _ c.is_name.ensures c.in_ok-check.ensures

pub returns : goal.returns
unfolding survival_of
returns c = rw (← c.is_name.ensures) (answered _ c.is_kept.ensures c.in_ok-check.ensures)
