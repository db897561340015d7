use native.Mathlib.Omega.{arith}
use Rattle.wire.specs.Le.{le_at}
use Rattle.token.proofs.Walk.{wf_inside, payload_part}
use Rattle.token.proofs.payload_at.Goals as goal

pub u16_at-size-requires : goal.u16_at-size-requires
u16_at-size-requires c = omega (arith, wf_inside c.requires.0 c.requires.1)

pub slice_bounds-result-count : goal.slice_bounds-result-count
unfolding le_at
slice_bounds-result-count c = omega (arith, wf_inside c.requires.0 c.requires.1, c.u16_at-size.ensures)

pub slice_bounds-result-start : goal.slice_bounds-result-start
unfolding le_at
slice_bounds-result-start c = omega (arith, wf_inside c.requires.0 c.requires.1, c.u16_at-size.ensures)

pub slice_bounds-result-end : goal.slice_bounds-result-end
unfolding le_at
slice_bounds-result-end c = omega (arith, wf_inside c.requires.0 c.requires.1, c.u16_at-size.ensures)

pub returns : goal.returns
returns c = rw c.u16_at-size.ensures (payload_part _ _)
