use mathlib.Core.Path.{sym}
use Rattle.grammar.specs.Reading.{is}
use Rattle.token.specs.Kinds.{number_of}
use Rattle.parser.proofs.Laws.{consumed, not_consumed}
use Rattle.parser.proofs.consume_token.Goals as goal

pub returns-then-is_next : goal.returns-then-is_next
returns-then-is_next c = consumed _ (is (number_of c.args.kind)) c.next.ensures (sym c.if-is_next.ensures)

pub returns-else-is_next : goal.returns-else-is_next
returns-else-is_next c = not_consumed _ (is (number_of c.args.kind)) c.requires (sym c.if-is_next.ensures)
