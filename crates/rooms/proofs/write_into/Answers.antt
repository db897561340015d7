-- `rooms::write_into` is safe.
use native.Mathlib.Omega.{arith}
use lib.ListN.{length-take}
use Rattle.rooms.proofs.write_into.Goals as goal

pub slice_bounds-write-end-2 : goal.slice_bounds-write-end-2
slice_bounds-write-end-2 c = simp length-take (omega arith)
