-- `names::is_joinable`: each return by the test that led there.
use mathlib.Core.Path.{◌∙◌}
use Rattle.names.proofs.Joined.{joinable, unjoinable}
use Rattle.names.proofs.is_joinable.Goals as goal

pub returns-then-are_names : goal.returns-then-are_names
returns-then-are_names c = joinable _ _ c.are_names.ensures c.if-are_names.true

pub returns-else-are_names : goal.returns-else-are_names
returns-else-are_names c = c.if-are_names.false ∙ unjoinable _ _ c.are_names.ensures c.if-are_names.false
