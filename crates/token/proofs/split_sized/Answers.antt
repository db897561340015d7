-- The split of what follows the length, as the rules on paragraphs have it.
use Rattle.token.proofs.Laws.{part_from, sized_split}
use Rattle.token.proofs.split_sized.Goals as goal

pub returns : goal.returns
returns c = sized_split c.args.p.now c.if-p-lt2.false c.split_at_checked.result (rw (part_from, c.u16_at.ensures) at c.split_at_checked.ensures.cases)
