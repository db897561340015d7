-- `places::collect_numbers` meets its contract: what is gathered stands in front.
use mathlib.Core.Path.{sym}
use Rattle.std.proofs.Common.{rules}
use Rattle.places.proofs.Gathered.{gathered, integer_there, gather_more, stepped_less}
use Rattle.places.proofs.collect_numbers.Goals as goal

pub integer_at-number-requires : goal.integer_at-number-requires
integer_at-number-requires c = integer_there c.loop-number.invariant (sym c.loop-number-test.ensures)

pub loop-number-smaller : goal.loop-number-smaller
loop-number-smaller c = stepped_less c.next-c.ensures

pub loop-number-preserved : goal.loop-number-preserved
loop-number-preserved c =
    gather_more c.loop-number.invariant (sym c.loop-number-test.ensures) c.next-c.ensures (rw (← c.integer_at-number.ensures) c.push.ensures)

pub returns : goal.returns
returns c = gathered c.loop-number.invariant (sym c.loop-number-test.ensures) _ (search rules)
