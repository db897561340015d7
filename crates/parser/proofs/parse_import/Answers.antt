use mathlib.Core.Path.{sym}
use Rattle.parser.proofs.Laws.{handed}
use Rattle.parser.proofs.Imports.{alias_fails, aliased}
use Rattle.parser.proofs.parse_import.Goals as goal

pub returns-in_err-after : goal.returns-in_err-after
returns-in_err-after c =
    handed _ _ _ _ c.from_residual-in_err-after.ensures.1
    (alias_fails c.next-path.ensures c.in_ok-past.ensures c.next-name.ensures (sym c.if-not-is_next.ensures) c.in_err-after.ensures)

pub returns : goal.returns
returns c = aliased c.next-path.ensures c.in_ok-past.ensures c.next-name.ensures (sym c.if-not-is_next.ensures) c.in_ok-after.ensures
