-- `names::is_kept`: the Pascal form is compared with the name.
use Rattle.identifier.proofs.Filled.{front}
use Rattle.identifier.specs.Survive.{survives}
use Rattle.names.proofs.is_kept.Goals as goal

pub returns : goal.returns
unfolding survives
returns c = rw (front c.pascal-pascal.ensures) at c.same.ensures
