-- `names::join`: the joined name stored, or R10.
use Rattle.names.proofs.Answers.{bad_input, good_input}
use Rattle.names.proofs.Joined.{join_short}
use Rattle.names.proofs.join.Goals as goal

pub returns-in_err-check : goal.returns-in_err-check
returns-in_err-check c = bad_input _ c.is_joinable.ensures c.from_residual.ensures.1 c.in_err-check.ensures

pub store_join-requires : goal.store_join-requires
store_join-requires c = join_short _ _ c.is_joinable.ensures c.in_ok-check.ensures

pub returns : goal.returns
returns c = good_input c.store_join.ensures c.is_joinable.ensures c.in_ok-check.ensures
