-- `text::put_paragraph` meets its contract.
use Rattle.std.proofs.Common.{refl, arith}
use Rattle.wire.proofs.Puts.{rest_step, rest_none}
use Rattle.text.proofs.Lines.{lines_begin, lines_more, lines_last}
use Rattle.text.proofs.put_paragraph.Goals as goal

pub loop-end-init : goal.loop-end-init
loop-end-init c = lines_begin _ _ _ (omega arith)

pub loop-end-preserved : goal.loop-end-preserved
loop-end-preserved c =
    rest_step c.put_line.ensures c.loop-end.invariant (lines_more _ _ _ _ c.in-Some.ensures.1 c.split_at.ensures.front c.split_at.ensures.back)

pub returns : goal.returns
returns c = rest_none (rest_step c.put_line-2.ensures c.loop-end.invariant (lines_last _ _ _ c.in_default.ensures)) refl
