-- `places::collect_imports` meets its contract: each import that is read is the next item.
use mathlib.Core.Path.{sym}
use native.Mathlib.Omega.{arith}
use Rattle.std.proofs.Common.{rules}
use Rattle.places.proofs.Collecting.{collected, later, collect_none, collect_one}
use Rattle.places.proofs.collect_imports.Goals as goal

pub loop-after-smaller-in-Ok : goal.loop-after-smaller-in-Ok
loop-after-smaller-in-Ok c = omega (arith, later c.in-Ok.ensures.read, c.in-Ok.ensures.read.wf.inside)

pub loop-after-preserved-in-Ok : goal.loop-after-preserved-in-Ok
loop-after-preserved-in-Ok c =
    rw c.is_empty.ensures
    (collect_one c.loop-after.invariant (sym c.loop-after-test.ensures) c.in-Ok.ensures c.item_at-x.ensures c.name_of.ensures c.push.ensures)

pub loop-after-smaller : goal.loop-after-smaller
loop-after-smaller c = omega (arith, later c.in-Err.ensures, c.in-Err.ensures.wf.inside)

pub loop-after-preserved : goal.loop-after-preserved
loop-after-preserved c = collect_none c.loop-after.invariant (sym c.loop-after-test.ensures) c.in-Err.ensures

pub returns : goal.returns
returns c = collected c.loop-after.invariant (sym c.loop-after-test.ensures) _ (search rules)
