use Rattle.parser.proofs.Laws.{ended}
use Rattle.parser.proofs.is_done.Goals as goal

pub returns : goal.returns
returns c = ended _ _ c.requires
