-- `text::put_comment` meets its contract.
use lib.ListN.{length}
use Rattle.text.proofs.Comment.{Commenting}
use Rattle.text.proofs.put_comment.Given as goal

abbrev pub invariant-loop-rest : goal.invariant-loop-rest
invariant-loop-rest l = Commenting l.initial.w l.indentation l.ps l.w l.rest

abbrev pub decreases-loop-rest : goal.decreases-loop-rest
decreases-loop-rest l = length l.rest
