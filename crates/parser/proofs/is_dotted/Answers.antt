use mathlib.Core.Path.{sym}
use Rattle.parser.proofs.Types.{dot}
use Rattle.parser.proofs.is_dotted.Goals as goal

pub returns-then-is_next : goal.returns-then-is_next
returns-then-is_next c = rw c.is_done.ensures (dot c.next.ensures (sym c.if-is_next.ensures))
