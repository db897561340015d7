-- `writer::is_unit` meets its contract.
use Rattle.std.proofs.Common.{◌≡◌, refl, ◌∙◌, eqb}
use borrow.Author.Tests.{eq-eqb, ne_eqb}
use denote.Enum.Bare.{sameb}
use Rattle.token.specs.Kinds.{number_of}
use Rattle.token.specs.declared.kind.Kind.{Kind}
use Rattle.token.specs.declared.kind.Kind.TheVariants.{Unit}
use Rattle.token.specs.contracts.kind.Kind.{the_type}
use Rattle.schema.specs.declared.kind.Kind.TheVariants.{Plain}
use Rattle.schema.proofs.Known.{same, differs}
use Rattle.writer.proofs.Types.{type_record, unit_at, plain_at}
use Rattle.writer.proofs.is_unit.Goals as goal

unit_is : (k : Kind) → sameb the_type k Unit ≡ eqb (number_of k) 25
unit_is Unit = refl
unit_is _ = refl

pub known_kind_at-requires : goal.known_kind_at-requires
known_kind_at-requires c = let r = type_record c.requires in (r.whole, r.right)

pub payload_at-requires : goal.payload_at-requires
payload_at-requires c = (type_record c.requires).whole

pub plain_kind-requires : goal.plain_kind-requires
plain_kind-requires c = rw c.payload_at.ensures (plain_at c.requires (same _ Plain c.known_kind_at.ensures c.if-eq.ensures))

pub returns-then-eq : goal.returns-then-eq
returns-then-eq c =
    rw (unit_at c.requires, eq-eqb _ _ (same _ Plain c.known_kind_at.ensures c.if-eq.ensures), ← c.payload_at.ensures, ← c.plain_kind.ensures)
    (c.eq-then-eq.ensures ∙ unit_is c.plain_kind.result)

pub returns-else-eq : goal.returns-else-eq
returns-else-eq c = rw (unit_at c.requires, ne_eqb _ _ (differs _ Plain c.known_kind_at.ensures c.if-eq.ensures)) c.if-eq.false
