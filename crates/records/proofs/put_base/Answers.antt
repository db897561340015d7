use mathlib.Core.Path.{sym}
use native.Mathlib.Omega.{arith}
use Rattle.token.specs.declared.kind.Kind.TheVariants.{Identifier}
use Rattle.token.proofs.Known.{not_kind}
use Rattle.records.proofs.Laws.{name_short, single_is, plain_is}
use Rattle.records.proofs.put_base.Goals as goal

pub put_named_of_kind-requires : goal.put_named_of_kind-requires
put_named_of_kind-requires c = rw c.payload_at.ensures (omega (arith, name_short (rw c.if-dotted.false at c.requires.stands) (sym c.in-Identifier.ensures)))

pub returns-in-Identifier : goal.returns-in-Identifier
returns-in-Identifier c =
    rw (c.if-dotted.false, single_is _ _ (sym c.in-Identifier.ensures)) (rw (c.span_tokens-range.ensures, c.payload_at.ensures) at c.put_named_of_kind.ensures)

pub returns-in_default : goal.returns-in_default
returns-in_default c =
    rw (c.if-dotted.false, plain_is _ _ (rw c.kind_at.ensures at (not_kind c.kind_at.result Identifier c.in_default.not-Identifier)))
    (rw (c.span_tokens-range.ensures, c.kind_at.ensures) at c.put_plain.ensures)
