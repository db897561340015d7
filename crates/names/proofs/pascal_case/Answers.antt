-- `names::pascal_case`: the form stored, or R10.
use Rattle.names.proofs.Answers.{bad_input, stored, short}
use Rattle.names.proofs.pascal_case.Goals as goal

pub returns-in_err-check : goal.returns-in_err-check
returns-in_err-check c = bad_input _ c.is_name.ensures c.from_residual.ensures.1 c.in_err-check.ensures

pub pascal-requires : goal.pascal-requires
pascal-requires c = short _ c.is_name.ensures c.in_ok-check.ensures

pub returns : goal.returns
returns c = stored c.pascal.ensures c.store_form.ensures c.is_name.ensures c.in_ok-check.ensures
