-- `writer::put_imports` meets its contract.
use Rattle.std.proofs.Common.{arith}
use borrow.Author.Tests.{ne_eqb}
use Rattle.schema.specs.declared.kind.Kind.TheVariants.{Import}
use Rattle.schema.proofs.Known.{same, differs}
use Rattle.schema.proofs.Walk.{record_at}
use Rattle.text.proofs.Parts.{import_sized}
use Rattle.writer.proofs.Imports.{importing_begin, importing_more, importing_end, importing_other, ImportAt, import_at_lem}
use Rattle.writer.proofs.put_imports.Goals.{Then-eq}
use Rattle.writer.proofs.put_imports.Goals as goal

-- the import at the loop's place
here : (c : Then-eq) → ImportAt c.args.t.now c.loop-at.at
here c = import_at_lem c.loop-at.invariant.opened c.loop-at-test.true (same _ Import c.known_kind_at.ensures c.if-eq.ensures)

pub loop-at-init : goal.loop-at-init
loop-at-init c = importing_begin c.requires

pub known_kind_at-requires : goal.known_kind_at-requires
known_kind_at-requires c = let r = (record_at c.loop-at.invariant.opened.stands c.loop-at-test.true) in (r.whole, r.right)

pub payload_at-p-requires : goal.payload_at-p-requires
payload_at-p-requires c = (here (goal.at.payload_at-p-requires c).Then-eq).whole

pub name_of-requires : goal.name_of-requires
name_of-requires c = rw c.payload_at-p.ensures (import_sized _ (here (goal.at.name_of-requires c).Then-eq).right)

pub after_name-requires : goal.after_name-requires
after_name-requires c = rw c.payload_at-p.ensures (import_sized _ (here (goal.at.after_name-requires c).Then-eq).right)

pub next_at-at-requires : goal.next_at-at-requires
next_at-at-requires c = let w = (here (goal.at.next_at-at-requires c).Then-eq).whole in (omega (arith, w), w.tail)

pub loop-at-smaller : goal.loop-at-smaller
loop-at-smaller c = omega (arith, (here (goal.at.loop-at-smaller c).Then-eq).whole, c.next_at-at.ensures)

pub loop-at-preserved : goal.loop-at-preserved
loop-at-preserved c =
    importing_more c.loop-at.invariant c.loop-at-test.true (same _ Import c.known_kind_at.ensures c.if-eq.ensures) c.next_at-at.ensures
    (rw (c.name_of.ensures, c.after_name.ensures, c.payload_at-p.ensures) at c.put_import.ensures)

pub returns-else-eq : goal.returns-else-eq
returns-else-eq c =
    importing_other c.loop-at.invariant c.loop-at-test.true (ne_eqb _ _ (differs _ Import c.known_kind_at.ensures c.if-eq.ensures))

pub returns-after-loop-at : goal.returns-after-loop-at
returns-after-loop-at c = importing_end c.loop-at.invariant c.loop-at-test.false
