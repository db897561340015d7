-- `writer::put_declarations` meets its contract.
use Rattle.std.proofs.Common.{arith}
use Rattle.writer.proofs.Declarations.{declaring_begin, declaring_more, declaring_done}
use Rattle.writer.proofs.put_declarations.Goals as goal

pub loop-at-init : goal.loop-at-init
loop-at-init c = declaring_begin c.requires

pub put_declaration-at-requires : goal.put_declaration-at-requires
put_declaration-at-requires c = (c.loop-at.invariant.outside, c.loop-at-test.true)

pub loop-at-smaller : goal.loop-at-smaller
loop-at-smaller c = omega (arith, c.loop-at-test.true, c.put_declaration-at.ensures.onward)

pub loop-at-preserved : goal.loop-at-preserved
loop-at-preserved c = declaring_more c.loop-at.invariant c.put_blank.ensures c.put_declaration-at.ensures

pub returns : goal.returns
returns c = declaring_done c.loop-at.invariant c.loop-at-test.false
