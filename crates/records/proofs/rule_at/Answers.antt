use Rattle.wire.specs.Pick.{pick}
use Rattle.token.specs.declared.kind.Kind.TheVariants.{Asymmetric}
use Rattle.token.proofs.Known.{not_kind}
use Rattle.records.proofs.rule_at.Goals as goal

pub returns-in-Asymmetric : goal.returns-in-Asymmetric
unfolding pick
returns-in-Asymmetric c = rw (c.in-Some.is, ← c.in-Asymmetric.ensures)

pub returns-in_default : goal.returns-in_default
unfolding pick
returns-in_default c = rw (c.in-Some.is, ← c.kind_at.ensures, not_kind c.kind_at.result Asymmetric c.in_default.not-Asymmetric)
