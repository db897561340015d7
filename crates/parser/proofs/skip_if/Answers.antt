use mathlib.Core.Path.{sym, ◌∙◌, ap}
use mathlib.Core.Bool.{true}
use Rattle.parser.proofs.Laws.{skipped}
use Rattle.parser.proofs.skip_if.Goals as goal

pub returns-in-Some : goal.returns-in-Some
returns-in-Some g c = λ k none decides.
    skipped k c.next.ensures (ap k (sym c.in-Some.ensures) ∙ sym (decides c.in-Some.kind true c.if-test.ensures))
