-- From byte to byte, and at the end no space stands last.
use native.Mathlib.Omega.{arith}
use Rattle.token.proofs.Laws.{spaced, spaced_end}
use Rattle.token.proofs.is_paragraph.Goals as goal

pub loop-b-preserved : goal.loop-b-preserved
loop-b-preserved c = spaced c.loop-b.invariant c.loop-b-test.true (omega (arith, c.type_inv.p c.loop-b.b-index)) c.class_of-class.ensures

pub returns : goal.returns
returns c = spaced_end c.loop-b.invariant c.loop-b-test.false
