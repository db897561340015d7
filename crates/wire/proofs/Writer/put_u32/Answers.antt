-- The library's bytes of a number are this repository's.
use Rattle.std.proofs.Common.{◌∙◌}
use Rattle.wire.proofs.Numbers.{to_le}
use Rattle.wire.proofs.Writer.put_u32.Goals as goal

pub returns : goal.returns
returns c = rw (c.to_le_bytes.ensures ∙ to_le 4 c.args.n) at c.put_slice.ensures
