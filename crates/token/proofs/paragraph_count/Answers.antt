-- Paragraph by paragraph, of which there are at most 32.
use native.Mathlib.Omega.{arith}
use Rattle.token.proofs.Paragraphs.{counting, counted_all, counted_few, counted_next, counted_less}
use Rattle.token.proofs.paragraph_count.Goals as goal

pub loop-after-init : goal.loop-after-init
loop-after-init c = counting _ c.requires

pub overflow_add-count : goal.overflow_add-count
overflow_add-count c = let f = counted_few c.loop-after.invariant c.in-Some.ensures in omega arith

pub loop-after-smaller : goal.loop-after-smaller
loop-after-smaller c = counted_less c.loop-after.invariant c.in-Some.ensures

pub loop-after-preserved : goal.loop-after-preserved
loop-after-preserved c = counted_next c.loop-after.invariant c.in-Some.ensures

pub returns : goal.returns
returns c = counted_all c.loop-after.invariant c.in_default.ensures
