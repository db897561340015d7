use mathlib.Core.Path.{sym}
use Rattle.parser.proofs.Laws.{handed}
use Rattle.parser.proofs.Types.{typed, mistyped}
use Rattle.parser.proofs.parse_type_part.Goals as goal

pub returns-in_err-ty : goal.returns-in_err-ty
returns-in_err-ty c = handed _ _ _ _ c.from_residual.ensures.1 (mistyped c.next.ensures (sym c.if-not-is_next.ensures) c.in_err-ty.ensures)

pub returns : goal.returns
returns c = typed c.next.ensures (sym c.if-not-is_next.ensures) c.in_ok-ty.ensures
