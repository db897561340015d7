-- `printed::put_error_line` meets its contract: the record's four numbers, each after a space.
use Rattle.wire.proofs.Puts.{then}
use Rattle.printed.specs.Printed.{error_text}
use Rattle.printed.proofs.put_error_line.Goals as goal

pub returns : goal.returns
unfolding error_text
returns c =
    then
    (then
    (then (then (then c.put_byte.ensures (rw c.u16_at-number.ensures at c.put_spaced.ensures)) (rw c.u32_at-start.ensures at c.put_spaced-2.ensures))
    (rw c.u32_at-end.ensures at c.put_spaced-3.ensures)) (rw c.u16_at-found.ensures at c.put_spaced-4.ensures)) c.put_byte-2.ensures
