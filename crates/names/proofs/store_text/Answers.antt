-- `names::store_text`: measured first, then R8 or the text at the front.
use Rattle.std.proofs.Common.{rules}
use native.Mathlib.Omega.{arith}
use Rattle.names.proofs.Answers.{measured_big, measured_fits, too_big, put_all}
use Rattle.names.proofs.store_text.Goals as goal

pub returns-then-out-measured : goal.returns-then-out-measured
returns-then-out-measured c = too_big c.into.ensures (measured_big c.new-measured.ensures.place c.put_text.ensures _ c.if-out-measured.true)

pub returns : goal.returns
returns c =
    let w = c.new-w.ensures in
    let fits = measured_fits c.new-measured.ensures.place c.put_text.ensures _ (omega arith) c.if-out-measured.false in
    put_all w.place w.bytes (search rules) fits (omega arith) c.put_text-2.ensures
