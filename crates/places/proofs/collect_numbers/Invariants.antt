-- What is gathered stands in front, in the list that was lent.
use Rattle.std.proofs.Common.{◌-◌, length}
use Rattle.places.proofs.Gathered.{Gathering}
use Rattle.places.proofs.collect_numbers.Given as goal

abbrev pub invariant-loop-number : goal.invariant-loop-number
invariant-loop-number l = Gathering l.t l.initial.c l.initial.numbers l.numbers l.c

abbrev pub decreases-loop-number : goal.decreases-loop-number
decreases-loop-number l = length l.t - l.c.at
