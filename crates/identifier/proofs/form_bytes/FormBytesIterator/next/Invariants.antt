-- `identifier::form_bytes::FormBytesIterator::next`: breaks that are passed over leave what is left of the form as it is.
use Rattle.std.proofs.Common.{◌≡◌, length}
use Rattle.identifier.specs.Left.{form_left}
use Rattle.identifier.proofs.form_bytes.FormBytesIterator.next.Given as goal

abbrev pub invariant-loop-b : goal.invariant-loop-b
invariant-loop-b l = form_left l.self ≡ form_left l.initial.self

abbrev pub decreases-loop-b : goal.decreases-loop-b
decreases-loop-b l = length l.self.rest.now
