-- `text::put_keyword` meets its contract.
use Rattle.std.proofs.Common.{arith}
use borrow.Author.Tests.{eq-eqb, ne_eqb}
use Rattle.wire.specs.Pick.{pick}
use Rattle.text.proofs.put_keyword.Goals as goal

pub returns-then-kind-number : goal.returns-then-kind-number
unfolding pick
returns-then-kind-number c = rw (eq-eqb c.args.kind 103 (omega (arith, c.if-kind-number.true, c.number.ensures))) c.put_slice.ensures

pub returns-else-kind-number : goal.returns-else-kind-number
unfolding pick
returns-else-kind-number c =
    rw (ne_eqb c.args.kind 103 (λ e. c.if-kind-number.false (omega (arith, e, c.number.ensures)))) c.put_slice-else-kind-number.ensures
