-- The numbers are sorted and put after their record's head.
use Rattle.std.proofs.Common.{rules}
use Rattle.wire.proofs.Puts.{puts_none}
use Rattle.emit.proofs.Indices.{no_indices, indices_put}
use Rattle.emit.proofs.put_indices.Goals as goal

pub returns-then-is_empty : goal.returns-then-is_empty
returns-then-is_empty c = rw (no_indices c.args.items.now (search rules)) puts_none

pub returns : goal.returns
returns c = indices_put c.args.items.now (search rules) c.sort.ensures.sorted c.put_record_head.ensures c.put_numbers.ensures
