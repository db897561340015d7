use Rattle.schema.proofs.payload_at.Goals as goal

pub returns : goal.returns
returns c = rw c.next_at-next.ensures
