-- `identifier::form_bytes::FormBytesIterator::next`: breaks that are passed over leave what is left of the form as it is.
use Rattle.std.proofs.Common.{rules}
use Rattle.identifier.proofs.Left.{left_break}
use Rattle.identifier.proofs.form_bytes.FormBytesIterator.next.Goals as goal

pub loop-b-preserved : goal.loop-b-preserved
loop-b-preserved c = search (rules, left_break)
