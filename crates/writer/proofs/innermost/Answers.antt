-- `writer::innermost` meets its contract.
use native.Mathlib.Omega.{arith}
use Rattle.schema.specs.declared.kind.Kind.TheVariants.{Array}
use Rattle.schema.proofs.Known.{same, differs}
use Rattle.writer.proofs.Types.{deeper_begin, deeper_more, deeper_done, type_record}
use Rattle.writer.proofs.innermost.Goals as goal

pub loop-at-init : goal.loop-at-init
loop-at-init c = deeper_begin c.requires

pub known_kind_at-requires : goal.known_kind_at-requires
known_kind_at-requires c = let r = type_record c.loop-at.invariant.stands in (r.whole, r.right)

pub overflow_add-at : goal.overflow_add-at
overflow_add-at c = omega (arith, (type_record c.loop-at.invariant.stands).whole)

pub loop-at-smaller : goal.loop-at-smaller
loop-at-smaller c = omega (arith, (type_record c.loop-at.invariant.stands).whole)

pub loop-at-preserved : goal.loop-at-preserved
loop-at-preserved c = deeper_more c.loop-at.invariant (same _ Array c.known_kind_at.ensures c.loop-at-test.ensures)

pub returns : goal.returns
returns c = deeper_done c.loop-at.invariant (differs _ Array c.known_kind_at.ensures c.loop-at-test.ensures)
