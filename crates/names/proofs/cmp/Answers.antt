-- `names::cmp`: the order, or R10.
use Rattle.names.specs.Answer.{compared_of}
use Rattle.names.proofs.Answers.{refused, answered}
use Rattle.names.proofs.cmp.Goals as goal

pub returns-in_err-check : goal.returns-in_err-check
unfolding compared_of
returns-in_err-check c = rw (← c.are_names.ensures) (refused _ _ c.from_residual.ensures.1 c.in_err-check.ensures)

pub returns : goal.returns
unfolding compared_of
returns c = rw (← c.are_names.ensures) (answered _ c.compare.ensures c.in_ok-check.ensures)
