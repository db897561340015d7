-- `identifier::snake`: `build` in this case.
use Rattle.std.proofs.Common.{rules}
use Rattle.identifier.specs.Forms.{snake_of}
use Rattle.identifier.proofs.snake.Goals as goal

pub returns : goal.returns
unfolding snake_of
returns c = search rules
