use mathlib.Core.Path.{sym, ◌∙◌}
use Rattle.parser.proofs.Laws.{kind_there, kind_end}
use Rattle.parser.proofs.kind_or_end.Goals as goal

pub returns-then-at-t : goal.returns-then-at-t
returns-then-at-t c = c.number_at.ensures ∙ sym (kind_there _ _ c.if-at-t.true)

pub returns : goal.returns
returns c = sym (kind_end _ _ c.if-at-t.false)
