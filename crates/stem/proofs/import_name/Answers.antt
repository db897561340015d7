-- Each return by the test that led there.
use Rattle.std.proofs.Common.{sym, ◌∙◌}
use Rattle.wire.specs.Pick.{pick}
use Rattle.stem.specs.Stem.{import_name}
use Rattle.stem.proofs.import_name.Goals as goal

pub returns-then-is_empty : goal.returns-then-is_empty
unfolding import_name pick
returns-then-is_empty c = c.stem.ensures ∙ rw (sym c.is_empty.ensures ∙ c.if-is_empty.true)

pub returns : goal.returns
unfolding import_name pick
returns c = rw (sym c.is_empty.ensures ∙ c.if-is_empty.false)
