use Rattle.imports.specs.Imports.{imports_at}
use Rattle.imports.proofs.Laws.{Putting}
use Rattle.imports.proofs.put_imports.Given as goal

abbrev pub invariant-loop-x : goal.invariant-loop-x
invariant-loop-x l = Putting (imports_at l.t) l.imports l.initial.w l.w l.x-index
