use native.Mathlib.Omega.{arith}
use Rattle.wire.specs.Le.{le_at}
use Rattle.token.proofs.Walk.{wf_inside, next_is}
use Rattle.token.proofs.next_at.Goals as goal

pub u16_at-requires : goal.u16_at-requires
unfolding le_at
u16_at-requires c = omega (arith, wf_inside c.requires.0 c.requires.1)

pub overflow_add-result : goal.overflow_add-result
unfolding le_at
overflow_add-result c = omega (arith, wf_inside c.requires.0 c.requires.1, c.u16_at.ensures)

pub returns : goal.returns
unfolding le_at
returns c = rw (next_is c.requires.0 c.requires.1, c.u16_at.ensures)
