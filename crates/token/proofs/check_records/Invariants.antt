use lib.ListN.{length}
use Rattle.token.specs.Checked.{checked}
use Rattle.token.proofs.Records.{Checking}
use Rattle.token.proofs.check_records.Given as goal

abbrev pub invariant-loop-rest : goal.invariant-loop-rest
invariant-loop-rest l = Checking (length l.t) l.rest l.count l.before.0 l.before.1.0 (checked l.t)

abbrev pub decreases-loop-rest : goal.decreases-loop-rest
decreases-loop-rest l = length l.rest
