use Rattle.token.specs.Payload.{is_paragraph}
use Rattle.token.proofs.Laws.{Spacing}
use Rattle.token.proofs.is_paragraph.Given as goal

abbrev pub invariant-loop-b : goal.invariant-loop-b
invariant-loop-b l = Spacing l.p l.gap l.good l.b-index (is_paragraph l.p)
