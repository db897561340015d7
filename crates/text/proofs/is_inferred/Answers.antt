-- `text::is_inferred` meets its contract.
use mathlib.Core.Path.{sym, ap, ◌∙◌}
use mathlib.Core.Bool.{not}
use Rattle.wire.proofs.Choice.{pick_yes, pick_no}
use Rattle.text.specs.Text.{is_inferred}
use Rattle.text.proofs.is_inferred.Goals as goal

pub returns-then-not-is_empty : goal.returns-then-not-is_empty
unfolding is_inferred
returns-then-not-is_empty c =
    rw (← c.stem-inferred.ensures) (pick_no _ _ _ _ (sym c.is_empty.ensures ∙ c.if-not-is_empty.true) c.same.ensures)

pub returns-else-not-is_empty : goal.returns-else-not-is_empty
unfolding is_inferred
returns-else-not-is_empty c =
    rw (← c.stem-inferred.ensures) (pick_yes _ _ _ _ (sym c.is_empty.ensures ∙ c.if-not-is_empty.false) (ap not c.if-not-is_empty.false))
