use Rattle.records.proofs.Laws.{name_short}
use Rattle.records.proofs.described_at.Goals as goal

pub invariant_of-result : goal.invariant_of-result
invariant_of-result c =
    record { short = rw c.payload_at.ensures (name_short c.requires.0.stands c.requires.0.wf); whole = c.comment_at.ensures.whole }
