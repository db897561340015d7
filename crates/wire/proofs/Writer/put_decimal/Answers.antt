-- The number falls as its digits are laid.
use Rattle.wire.proofs.Numbers.{digits_more, digits_whole}
use Rattle.wire.proofs.Writer.put_decimal.Goals as goal

pub loop-m-preserved : goal.loop-m-preserved
loop-m-preserved c = digits_more c.loop-m.invariant c.loop-m-test.true

pub returns : goal.returns
returns c = rw (digits_whole c.loop-m.invariant c.loop-m-test.false) at c.put_slice.ensures
