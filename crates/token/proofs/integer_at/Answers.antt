use mathlib.Core.Path.{◌∙◌}
use native.Mathlib.Omega.{arith}
use Rattle.token.proofs.Walk.{wf_inside, integer_size, integer_is}
use Rattle.token.proofs.integer_at.Goals as goal

pub u64_at-requires : goal.u64_at-requires
u64_at-requires c =
    omega (arith, wf_inside c.requires.0 c.requires.1, integer_size c.requires.0 c.requires.1 c.requires.2)

pub returns : goal.returns
returns c = c.u64_at.ensures ∙ integer_is c.requires.0 c.requires.1 c.requires.2
