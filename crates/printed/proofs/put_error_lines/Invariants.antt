-- `printed::put_error_lines` meets its contract.
use mathlib.Core.Path.{◌≡◌}
use Rattle.printed.proofs.Lines.{Lines}
use Rattle.printed.proofs.put_error_lines.Given as goal

abbrev pub invariant-loop-error : goal.invariant-loop-error
invariant-loop-error l = record {
  size : l.error-iterator.size ≡ 14;
  lines : Lines l.list l.initial.w l.w l.error-iterator.rest.now;
}
