use Rattle.wire.specs.Pick.{pick}
use Rattle.token.specs.declared.kind.Kind.TheVariants.{Struct}
use Rattle.token.proofs.Known.{not_kind}
use Rattle.records.proofs.declaration_kind.Goals as goal

pub returns-in-Struct : goal.returns-in-Struct
unfolding pick
returns-in-Struct c = rw (← c.in-Struct.ensures)

pub returns-in_default : goal.returns-in_default
unfolding pick
returns-in_default c = rw (← c.kind_at.ensures, not_kind c.kind_at.result Struct c.in_default.not-Struct)
