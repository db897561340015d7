-- `stream::show` is safe.
use native.Mathlib.Omega.{arith}
use lib.ListN.{length-take}
use Rattle.stream.proofs.show.Goals as goal

pub slice_bounds-write_all-end : goal.slice_bounds-write_all-end
slice_bounds-write_all-end c = simp length-take (omega arith)
