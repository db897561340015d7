use borrow.Author.Rules.{rules}
use native.Mathlib.Omega.{arith}
use mathlib.Core.Path.{refl}
use Rattle.wire.proofs.Puts.{puts_none}
use Rattle.records.proofs.Laws.{put_record, whole_short, no_opening, opening}
use Rattle.records.proofs.put_opening.Goals as goal

pub returns-then-is_empty : goal.returns-then-is_empty
returns-then-is_empty c = rw (no_opening c.comment_at-p.ensures (search rules)) puts_none

pub put_record_head-requires : goal.put_record_head-requires
put_record_head-requires c = omega (arith, whole_short c.comment_at-p.ensures.whole)

pub returns : goal.returns
returns c = rw (opening c.comment_at-p.ensures (search rules)) at (put_record 101 0 0 c.put_record_head.ensures c.put_slice.ensures refl)
