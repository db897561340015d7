use Rattle.records.proofs.Laws.{Nesting}
use Rattle.records.proofs.put_type.Given as goal

abbrev pub invariant-loop-left : goal.invariant-loop-left
invariant-loop-left l = Nesting l.t l.p l.initial.w l.w l.left l.opens
