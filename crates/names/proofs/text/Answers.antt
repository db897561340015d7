-- `names::text`: the text stored, or R10.
use mathlib.Core.Path.{refl}
use Rattle.names.proofs.Answers.{bad_input}
use Rattle.names.proofs.text.Goals as goal

pub returns-in_err-checked : goal.returns-in_err-checked
returns-in_err-checked c = bad_input _ refl c.from_residual.ensures.1 c.in_err-checked.ensures
