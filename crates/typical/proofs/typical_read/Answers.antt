-- Nothing is an empty schema, and each case of the answer is told.
use Rattle.typical.proofs.Told.{nothing_told}
use Rattle.typical.proofs.typical_read.Goals as goal

pub returns-then-table-eq0 : goal.returns-then-table-eq0
returns-then-table-eq0 c = nothing_told c.args.out.now c.if-table-eq0.true
