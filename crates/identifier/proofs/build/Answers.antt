-- `identifier::build`: what was put into the array of zeros.
use Rattle.std.proofs.Common.{rules}
use Rattle.identifier.proofs.Filled.{formed}
use Rattle.identifier.proofs.build.Goals as goal

pub returns : goal.returns
returns c = formed c.args.case c.args.name.now c.requires c.new-w.ensures.bytes c.new-w.ensures.place c.put_form.ensures (search rules)
