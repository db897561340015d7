-- What a writer does: it lays bytes over the buffer that it holds, from its place on, and stands past them then.
use Rattle.std.specs.Prelude.{◌≡◌}
use Rattle.wire.specs.Bytes.{Bytes}
use Rattle.wire.specs.Put.{Wrote}
use Rattle.wire.specs.declared.Writer.{Writer}

-- w put bs, and is w' now; it holds the same buffer
pub record Puts (w : Writer) (bs : Bytes) (w' : Writer) : Type 0 where
  pub same : w'.out.ghost_name ≡ w.out.ghost_name
  pub wrote : Wrote w.out.now w.at bs w'.out.now w'.at
