-- `text::put_counted` meets its contract.
use Rattle.text.proofs.Comment.{no_comment}
use Rattle.std.proofs.lemmas.List.{take_rest}
use Rattle.text.proofs.put_counted.Goals as goal

pub put_comment-requires : goal.put_comment-requires
put_comment-requires c = rw take_rest c.requires.1

pub returns-then-p-gt2 : goal.returns-then-p-gt2
returns-then-p-gt2 c = rw take_rest at c.put_comment.ensures

pub returns-else-p-gt2 : goal.returns-else-p-gt2
returns-else-p-gt2 c = no_comment _ _ c.if-p-gt2.false
