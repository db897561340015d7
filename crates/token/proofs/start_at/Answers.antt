use mathlib.Core.Path.{sym, ◌∙◌}
use native.Mathlib.Omega.{arith}
use Rattle.token.specs.Table.{token_of}
use Rattle.token.proofs.Walk.{field, wf_inside}
use Rattle.token.proofs.start_at.Goals as goal

pub u32_at-requires : goal.u32_at-requires
u32_at-requires c = omega (arith, wf_inside c.requires.0 c.requires.1)

pub returns : goal.returns
unfolding token_of
returns c = c.u32_at.ensures ∙ sym (field _ _ _ _)
