-- `writer::write_measured` meets its contract.
use Rattle.std.proofs.Common.{arith}
use Rattle.writer.proofs.Answers.{table, too_small, large_enough}
use Rattle.writer.proofs.write_measured.Goals as goal

pub returns-then-out-need : goal.returns-then-out-need
returns-then-out-need c =
    rw c.into.ensures (too_small _ c.args.out.now (table _ c.requires.0 c.requires.1) c.put_text-need.ensures (omega arith) c.if-out-need.true)

pub returns : goal.returns
returns c = large_enough _ c.args.out.now (table _ c.requires.0 c.requires.1) c.put_text-need.ensures (omega arith) c.if-out-need.false c.put_text.ensures
