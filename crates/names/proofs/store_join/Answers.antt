-- `names::store_join`: R8, or the three parts at the front.
use Rattle.std.proofs.Common.{rules}
use native.Mathlib.Omega.{arith}
use Rattle.names.proofs.Joined.{join_too_big, join_put}
use Rattle.names.proofs.store_join.Goals as goal

pub returns-then-out-a : goal.returns-then-out-a
returns-then-out-a c = join_too_big _ _ c.into.ensures c.if-out-a.true

pub returns : goal.returns
returns c =
    let w = c.new-w.ensures in
    join_put _ _ w.place w.bytes (search rules) c.if-out-a.false (omega arith) c.put_slice.ensures c.put_byte.ensures c.put_slice-2.ensures
