-- `identifier::camel`: `build` in this case.
use Rattle.std.proofs.Common.{rules}
use Rattle.identifier.specs.Forms.{camel_of}
use Rattle.identifier.proofs.camel.Goals as goal

pub returns : goal.returns
unfolding camel_of
returns c = search rules
