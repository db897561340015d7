-- `identifier::put_bytes`: what is left of the form at a place of the name is what is left to put.
use Rattle.std.proofs.Common.{drop}
use Rattle.wire.proofs.Puts.{Rest}
use Rattle.identifier.specs.Left.{form_of}
use Rattle.identifier.proofs.Left.{left_in}
use Rattle.identifier.proofs.put_bytes.Given as goal

abbrev pub invariant-loop-b : goal.invariant-loop-b
invariant-loop-b l = Rest l.w (left_in l.case l.state (drop l.b-index l.name)) l.initial.w (form_of l.case l.name)
