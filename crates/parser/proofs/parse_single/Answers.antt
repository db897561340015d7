use Rattle.parser.proofs.Types.{single}
use Rattle.parser.proofs.parse_single.Goals as goal

pub returns : goal.returns
returns c = rw c.base_type.ensures (single c.in_ok-after.ensures)
