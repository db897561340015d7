-- `stream::skip` ends: each turn leaves fewer bytes.
use mathlib.Core.Path.{◌≡◌}
use lib.ListN.{length}
use Rattle.stream.proofs.skip.Given as goal

abbrev pub invariant-loop-left : goal.invariant-loop-left
invariant-loop-left l = length l.spare ≡ length l.initial.spare

abbrev pub decreases-loop-left : goal.decreases-loop-left
decreases-loop-left l = l.left
