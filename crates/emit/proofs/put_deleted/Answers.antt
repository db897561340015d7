use mathlib.Core.Path.{sym, ◌∙◌}
use Rattle.wire.proofs.Puts.{puts_none}
use Rattle.emit.proofs.Indices.{no_deleted, some_deleted}
use Rattle.emit.proofs.put_deleted.Goals as goal

pub returns-then-not-is_next : goal.returns-then-not-is_next
returns-then-not-is_next c = rw (no_deleted c.args.t.now c.args.c (sym c.is_next.ensures ∙ c.if-not-is_next.true)) puts_none

pub returns : goal.returns
returns c = rw (some_deleted (sym c.is_next.ensures ∙ c.if-not-is_next.false) c.next.ensures c.collect_numbers-n.ensures) at c.put_indices.ensures
