use Rattle.std.proofs.Common.{◌-◌, length}
use Rattle.places.proofs.Collecting.{Collecting}
use Rattle.places.proofs.collect_imports.Given as goal

abbrev pub invariant-loop-after : goal.invariant-loop-after
invariant-loop-after l = Collecting l.t l.initial.c l.initial.imports l.imports l.sound l.c

abbrev pub decreases-loop-after : goal.decreases-loop-after
decreases-loop-after l = length l.t - l.c.at
