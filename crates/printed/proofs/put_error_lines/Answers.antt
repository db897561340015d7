-- `printed::put_error_lines` meets its contract.
use Rattle.std.proofs.Common.{◌∙◌, arith}
use Rattle.printed.proofs.Lines.{lines_all, lines_more, lines_hold, lines_none}
use Rattle.printed.proofs.put_error_lines.Goals as goal

pub loop-error-init : goal.loop-error-init
loop-error-init c = record { size = cc; lines = lines_all cc }

pub put_error_line-requires : goal.put_error_line-requires
put_error_line-requires c =
    let s = c.in-Some.ensures.steps in
    let g = c.loop-error.invariant in
    omega (arith, s.1.1, g.size, lines_hold c.in-Some.error.now c.next.new.self.rest.now (rw s.1.0 at g.lines))

pub loop-error-preserved : goal.loop-error-preserved
loop-error-preserved c =
    let s = c.in-Some.ensures.steps in
    let g = c.loop-error.invariant in record {
      size = s.0 ∙ g.size;
      lines = lines_more c.in-Some.error.now c.next.new.self.rest.now (rw s.1.0 at g.lines) (s.1.1 ∙ g.size) c.put_error_line.ensures;
    }

pub returns : goal.returns
returns c = let s = c.in-None.ensures.steps in lines_none c.loop-error.invariant.lines (omega (arith, s.1.0, c.loop-error.invariant.size))
