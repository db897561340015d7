-- The loop has found the last part kept so far (`Found`).
use Rattle.std.proofs.Common.{◌≡◌, length, arith}
use Rattle.stem.proofs.Laws.{none, byte, keep, leave, ends_kept, ends_left}
use Rattle.stem.proofs.last_part.Goals as goal
use Rattle.stem.proofs.last_part.Goals.{then-b-eq47, then-is_kept, else-is_kept, else-b-eq47}

pub loop-i-init : goal.loop-i-init
loop-i-init c = none _

pub loop-i-preserved : goal.loop-i-preserved
loop-i-preserved c =
    let g = c.loop-i.invariant in
    elim c.if-b-eq47.branch [
      | then-b-eq47 w ↦ rw (w.last-is, w.start-is) (elim w.if-is_kept.branch [
        | then-is_kept w' ↦ rw w'.last-is (keep g c.loop-i-test.true w.if-b-eq47.true w.is_kept.ensures w'.if-is_kept.true)
        | else-is_kept w' ↦ rw w'.last-is (leave g c.loop-i-test.true w.if-b-eq47.true w.is_kept.ensures w'.if-is_kept.false)
      ])
      | else-b-eq47 w ↦ rw (w.last-is, w.start-is) (byte g c.loop-i-test.true w.if-b-eq47.false)
    ]

pub returns-then-is_kept-2 : goal.returns-then-is_kept-2
returns-then-is_kept-2 c =
    let e : c.loop-i.i ≡ length c.args.path.now = omega (arith, c.loop-i.invariant.within) in
    ends_kept (rw e at c.loop-i.invariant) (omega arith) c.is_kept-2.ensures c.if-is_kept-2.true

pub returns : goal.returns
returns c =
    let e : c.loop-i.i ≡ length c.args.path.now = omega (arith, c.loop-i.invariant.within) in
    ends_left (rw e at c.loop-i.invariant) (omega arith) c.is_kept-2.ensures c.if-is_kept-2.false
