use native.Mathlib.Omega.{arith}
use Rattle.wire.proofs.Numbers.{all_bytes}
use Rattle.records.proofs.Laws.{comment_there, comment_absent}
use Rattle.records.proofs.comment_at.Goals as goal

pub returns-in-Some : goal.returns-in-Some
returns-in-Some c =
    let here = rw c.in-Some.is at c.requires in
    rw (c.in-Some.is, c.payload_at.ensures) (comment_there here.0 here.1 (all_bytes c.args.t.now λ i. omega (arith, c.type_inv.t i)))

pub returns-in-None : goal.returns-in-None
returns-in-None c = rw c.in-None.is comment_absent
