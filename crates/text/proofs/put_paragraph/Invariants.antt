-- `text::put_paragraph` meets its contract.
use lib.ListN.{length}
use mathlib.Core.List.{flat_map}
use Rattle.wire.proofs.Puts.{Rest}
use Rattle.text.specs.Wrap.{wrap}
use Rattle.text.specs.Text.{line_text, paragraph_text}
use Rattle.text.proofs.put_paragraph.Given as goal

abbrev pub invariant-loop-end : goal.invariant-loop-end
invariant-loop-end l = Rest l.w (flat_map (line_text l.indentation) (wrap l.width l.rest)) l.initial.w (paragraph_text l.indentation l.s)

abbrev pub decreases-loop-end : goal.decreases-loop-end
decreases-loop-end l = length l.rest
