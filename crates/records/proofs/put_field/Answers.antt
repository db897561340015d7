use Rattle.wire.proofs.Puts.{then}
use Rattle.records.proofs.put_field.Goals as goal

pub returns : goal.returns
returns c = then c.put_field_record.ensures c.put_part.ensures
