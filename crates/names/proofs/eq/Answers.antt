-- `names::eq`: whether they are the same, or R10.
use Rattle.names.specs.Answer.{sameness_of}
use Rattle.names.proofs.Answers.{refused, answered}
use Rattle.names.proofs.eq.Goals as goal

pub returns-in_err-check : goal.returns-in_err-check
unfolding sameness_of
returns-in_err-check c = rw (← c.are_names.ensures) (refused _ _ c.from_residual.ensures.1 c.in_err-check.ensures)

pub returns : goal.returns
unfolding sameness_of
returns c = rw (← c.are_names.ensures) (answered _ c.same.ensures c.in_ok-check.ensures)
