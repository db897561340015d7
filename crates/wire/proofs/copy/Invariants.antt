-- What is copied stands before what was there.
use Rattle.std.proofs.Common.{◌≡◌, length, take}
use Rattle.wire.proofs.copy.Given as goal

abbrev pub invariant-loop-i : goal.invariant-loop-i
invariant-loop-i g l = (length l.to ≡ length l.initial.to) × (take l.i l.to ≡ take l.i l.s)
