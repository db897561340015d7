-- The last dot so far has been found (`Dotted`).
use Rattle.stem.proofs.Laws.{Dotted}
use Rattle.stem.proofs.last_dot.Given as goal

abbrev pub invariant-loop-i : goal.invariant-loop-i
invariant-loop-i l = Dotted l.part l.best l.i
