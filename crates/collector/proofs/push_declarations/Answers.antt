-- `collector::push_declarations`: the end of the list doesn't fall.
use Rattle.std.proofs.Common.{arith}
use Rattle.collector.proofs.Laws.{grows}
use Rattle.collector.proofs.push_declarations.Goals as goal

pub grow-requires : goal.grow-requires
grow-requires c = grows _ c.requires.0 (omega arith) c.write_declarations-to.ensures
