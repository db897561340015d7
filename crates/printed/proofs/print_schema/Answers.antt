-- `printed::print_schema` meets its contract: the writer was lent the front of the buffer.
use Rattle.std.proofs.Common.{arith}
use Rattle.printed.proofs.Texts.{refused_line, written_text}
use Rattle.printed.proofs.print_schema.Goals as goal

pub returns-in-Ok : goal.returns-in-Ok
returns-in-Ok c = written_text c.args.out.now c.requires c.write.ensures (omega arith) c.in-Ok.is

pub returns-in-Err : goal.returns-in-Err
returns-in-Err c = refused_line c.args.out.now c.requires c.write.ensures c.in-Err.is c.print_refusal.ensures
