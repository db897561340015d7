-- `identifier::pascal`: `build` in this case.
use Rattle.std.proofs.Common.{rules}
use Rattle.identifier.specs.Forms.{pascal_of}
use Rattle.identifier.proofs.pascal.Goals as goal

pub returns : goal.returns
unfolding pascal_of
returns c = search rules
