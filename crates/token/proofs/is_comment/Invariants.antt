use Prim.Native.Nat.{◌-◌}
use Rattle.token.specs.Payload.{is_comment}
use Rattle.token.proofs.Laws.{Turning}
use Rattle.token.proofs.is_comment.Given as goal

abbrev pub invariant-loop : goal.invariant-loop
invariant-loop l = Turning (32 - l.counter) l.rest (is_comment l.p)
