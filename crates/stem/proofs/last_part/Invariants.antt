-- The loop has found the last part kept so far (`Found`).
use Rattle.stem.proofs.Laws.{Found}
use Rattle.stem.proofs.last_part.Given as goal

abbrev pub invariant-loop-i : goal.invariant-loop-i
invariant-loop-i l = Found l.path l.last.from l.last.to l.start l.i
