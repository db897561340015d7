-- `stream::answer` meets its contract: what is printed lies in its buffer, and showing it changes nothing.
use mathlib.Core.Path.{refl}
use native.Mathlib.Omega.{arith}
use Rattle.printed.proofs.Short.{prints_end}
use Rattle.stream.proofs.answer.Goals as goal

pub show-requires : goal.show-requires
show-requires c = omega (arith, prints_end c.print-end.ensures)

pub returns : goal.returns
returns c = let p = c.print-end.ensures in record { schema = p.schema; size = refl; text = p.text }
