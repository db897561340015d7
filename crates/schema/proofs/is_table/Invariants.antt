use lib.ListN.{length}
use Rattle.schema.specs.Kinds.{number_at}
use Rattle.schema.specs.Table.{is_schema_table}
use Rattle.schema.proofs.Judging.{Judging}
use Rattle.schema.proofs.is_table.Given as goal

abbrev pub invariant-loop-rest : goal.invariant-loop-rest
invariant-loop-rest l = Judging l.rest (number_at l.before.0) l.before.1.0.now l.before.1.1.0 (is_schema_table l.t)

abbrev pub decreases-loop-rest : goal.decreases-loop-rest
decreases-loop-rest l = length l.rest
