use mathlib.Core.Path.{sym, ◌∙◌}
use native.Mathlib.Omega.{arith}
use Rattle.token.specs.Table.{token_of}
use Rattle.token.proofs.Walk.{field, wf_inside}
use Rattle.token.proofs.number_at.Goals as goal

pub u16_at-requires : goal.u16_at-requires
u16_at-requires c = omega (arith, wf_inside c.requires.0 c.requires.1)

pub returns : goal.returns
unfolding token_of
returns c = c.u16_at.ensures ∙ sym (field _ _ _ _)
