use lib.ListN.{length}
use Rattle.token.proofs.Paragraphs.{Counting}
use Rattle.token.proofs.paragraph_count.Given as goal

abbrev pub invariant-loop-after : goal.invariant-loop-after
invariant-loop-after l = Counting l.p l.count l.rest

abbrev pub decreases-loop-after : goal.decreases-loop-after
decreases-loop-after l = length l.rest
