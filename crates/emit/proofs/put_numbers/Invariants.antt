use Rattle.schema.specs.Encode.{indices}
use Rattle.imports.proofs.Laws.{Putting}
use Rattle.emit.proofs.put_numbers.Given as goal

abbrev pub invariant-loop-n : goal.invariant-loop-n
invariant-loop-n l = Putting indices l.items l.initial.w l.w l.n-index
