-- `writer::write_table` meets its contract.
use Rattle.std.proofs.Common.{arith}
use Rattle.wire.proofs.Numbers.{all_bytes}
use Rattle.writer.proofs.Answers.{table, surely_fits}
use Rattle.writer.proofs.write_table.Goals as goal

pub returns-then-t-out : goal.returns-then-t-out
returns-then-t-out c =
    surely_fits _ _ (table _ c.requires.0 c.requires.1) (all_bytes c.args.t.now (λ i. omega (arith, c.type_inv.t i))) (omega arith) (omega (arith, c.if-t-out.true))
    c.put_text.ensures
