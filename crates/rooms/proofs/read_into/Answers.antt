-- `rooms::read_into` is safe.
use native.Mathlib.Omega.{arith}
use lib.ListN.{length-take}
use Rattle.rooms.proofs.read_into.Goals as goal

pub slice_bounds-read-end-2 : goal.slice_bounds-read-end-2
slice_bounds-read-end-2 c = simp length-take (omega arith)
