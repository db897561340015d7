-- `identifier::put_snake`: `put_form` in this case.
use Rattle.std.proofs.Common.{rules}
use Rattle.identifier.specs.Forms.{snake_of}
use Rattle.identifier.proofs.put_snake.Goals as goal

pub returns : goal.returns
unfolding snake_of
returns c = search rules
