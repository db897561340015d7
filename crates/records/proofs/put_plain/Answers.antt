use Rattle.wire.proofs.Numbers.{le_bytes-length}
use Rattle.records.proofs.Laws.{put_record}
use Rattle.records.proofs.put_plain.Goals as goal

pub returns : goal.returns
returns c = rw (← c.number.ensures) (put_record _ _ _ {n = 2} c.put_record_head.ensures c.put_u16.ensures (rw le_bytes-length))
