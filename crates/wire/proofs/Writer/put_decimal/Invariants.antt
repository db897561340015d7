-- The digits of what is left of the number are still to be laid, up to the place i (`Digits`).
use Rattle.wire.proofs.Numbers.{Digits}
use Rattle.wire.proofs.Writer.put_decimal.Given as goal

abbrev pub invariant-loop-m : goal.invariant-loop-m
invariant-loop-m l = Digits l.digits l.i l.m l.n

abbrev pub decreases-loop-m : goal.decreases-loop-m
decreases-loop-m l = l.m
