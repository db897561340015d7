-- Record by record, from what is left of the table to what is left of it then.
use Prim.Native.Nat.{◌<◌}
use mathlib.Core.Path.{◌≡◌, ◌∙◌}
use lib.ListN.{length}
use Rattle.std.proofs.Common.{rules}
use Rattle.schema.proofs.Judging.{judging, judged_end, judged_cut, judged_wrong, judged_less, judged_next}
use Rattle.schema.proofs.is_table.Goals as goal

pub loop-rest-init : goal.loop-rest-init
loop-rest-init c = judging _

pub returns-in_default : goal.returns-in_default
returns-in_default c = let z : 0 < length c.loop-rest.rest.now = search rules in judged_cut c.loop-rest.invariant z c.in_default.ensures

pub invariant_of-before : goal.invariant_of-before
invariant_of-before c = record { shallow = c.loop-rest.invariant.shallow; sized = c.loop-rest.invariant.sized }

pub returns-in_default-add : goal.returns-in_default-add
returns-in_default-add c = judged_wrong c.loop-rest.invariant c.in-Some.ensures c.in_default-add.ensures

pub loop-rest-smaller : goal.loop-rest-smaller
loop-rest-smaller c = judged_less c.loop-rest.invariant c.in-Some.ensures

pub loop-rest-preserved : goal.loop-rest-preserved
loop-rest-preserved c =
    let b = c.in-Some-add.next in
    judged_next c.loop-rest.invariant c.in-Some.ensures c.in-Some-add.ensures b.shallow b.sized

pub invariant_of-before-2 : goal.invariant_of-before-2
invariant_of-before-2 c = record { shallow = c.loop-rest.invariant.shallow; sized = c.loop-rest.invariant.sized }

pub returns : goal.returns
returns c = let z : length c.loop-rest.rest.now ≡ 0 = search rules in c.may_follow.ensures ∙ judged_end c.loop-rest.invariant z
