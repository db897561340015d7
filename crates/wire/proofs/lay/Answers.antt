-- All lies past the end, all fits, or what fits is laid.
use Rattle.std.proofs.Common.{arith, sym}
use Rattle.wire.proofs.Laws.{over_past, over_whole, over_clipped}
use Rattle.wire.proofs.lay.Goals as goal

pub returns-then-out-at : goal.returns-then-out-at
returns-then-out-at c = sym (over_past c.args.s.now _ _ c.if-out-at.true (omega arith))

pub returns-then-s-room : goal.returns-then-s-room
returns-then-s-room c = rw c.copy.ensures (over_whole _ _ _ (omega arith) (omega arith))

pub returns-else-s-room : goal.returns-else-s-room
returns-else-s-room c = rw c.copy-else-s-room.ensures (over_clipped _ _ _ (omega arith) (omega arith) (omega arith))
