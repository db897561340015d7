-- `identifier::form_bytes::State::after`: each return by the test that led there.
use Rattle.std.proofs.Common.{rules}
use Rattle.wire.specs.Pick.{pick}
use Rattle.identifier.specs.Left.{state_after}
use Rattle.identifier.proofs.form_bytes.State.after.Goals as goal

pub returns-then-not-is_break : goal.returns-then-not-is_break
unfolding state_after pick
returns-then-not-is_break c = search rules

pub returns-in-Inside : goal.returns-in-Inside
unfolding state_after pick
returns-in-Inside c = search rules

pub returns-in_default : goal.returns-in_default
unfolding state_after pick
returns-in_default c = search rules
