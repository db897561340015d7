use mathlib.Core.Path.{sym, ◌∙◌}
use Rattle.parser.proofs.Laws.{kind_there, kind_end}
use Rattle.parser.proofs.peek.Goals as goal

pub returns-then-c-t : goal.returns-then-c-t
returns-then-c-t c = c.kind_at.ensures ∙ sym (kind_there _ _ c.if-c-t.true)

pub returns-else-c-t : goal.returns-else-c-t
returns-else-c-t c = sym (kind_end _ _ c.if-c-t.false)
