use native.Mathlib.Omega.{arith}
use Rattle.records.proofs.Laws.{whole_short}
use Rattle.records.proofs.Described.size.Goals as goal

pub returns-clause-small : goal.returns-clause-small
returns-clause-small c = omega (arith, c.args.self.short, whole_short c.args.self.whole)
