-- `identifier::order::same`: equality is the order's own test.
use Rattle.std.proofs.Common.{rules}
use Rattle.identifier.specs.Order.{same_name}
use Rattle.identifier.proofs.order.same.Goals as goal

pub returns : goal.returns
unfolding same_name
returns c = search rules
