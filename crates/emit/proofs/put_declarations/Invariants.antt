use lib.ListN.{length}
use Rattle.parser.specs.Steps.{ahead}
use Rattle.emit.proofs.Walks.{Declaring}
use Rattle.emit.proofs.put_declarations.Given as goal

abbrev pub invariant-loop-c : goal.invariant-loop-c
invariant-loop-c l = Declaring l.t l.initial.c l.initial.w l.w l.items l.spare l.c

abbrev pub decreases-loop-c : goal.decreases-loop-c
decreases-loop-c l = length (ahead l.t l.c)
