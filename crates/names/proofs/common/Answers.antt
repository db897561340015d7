-- `names::common`: the names before what is left of the two are the same (`Shared`).
use Rattle.names.proofs.Walk.{rest_shorter}
use Rattle.names.proofs.Shared.{share_none, share_one, differ, first_ends, second_ends, other_good}
use Rattle.names.proofs.common.Goals as goal
use Rattle.names.proofs.common.Goals.{in-Some-Some+then-not-same, in_default, in_default-2}

pub loop-x-init : goal.loop-x-init
loop-x-init c = share_none c.args.a.good c.args.b.good

pub loop-x-smaller : goal.loop-x-smaller
loop-x-smaller c = rest_shorter c.in-Some-Some.ensures

pub loop-x-preserved : goal.loop-x-preserved
loop-x-preserved c = share_one c.loop-x.invariant c.in-Some-Some.ensures c.in-Some-Some.ensures' c.same.ensures c.if-not-same.false

pub returns : goal.returns
returns c =
    elim c.match-split_first_name.branch [
      | in-Some-Some+then-not-same w ↦ differ c.loop-x.invariant w.in-Some-Some.ensures w.in-Some-Some.ensures' w.same.ensures w.if-not-same.true
      | in_default w ↦ second_ends c.loop-x.invariant w.in_default.ensures'
      | in_default-2 w ↦ first_ends c.loop-x.invariant w.in_default.ensures
    ]

pub invariant_of-result : goal.invariant_of-result
invariant_of-result c = record { good = other_good c.loop-x.invariant }
