-- `names::store`: R8, or the bytes at the front.
use native.Mathlib.Omega.{arith}
use Rattle.names.proofs.Answers.{too_big, placed}
use Rattle.names.proofs.store.Goals as goal

pub returns-then-out-n : goal.returns-then-out-n
returns-then-out-n c = too_big c.into.ensures (omega (arith, c.if-out-n.true))

pub returns : goal.returns
returns c = placed c.if-out-n.false (rw c.copy_from_slice.ensures.after)
