-- `identifier::order::compare`: the first two bytes that differ decide, or what is left of the forms is compared.
use Rattle.std.proofs.Common.{rules}
use Rattle.identifier.proofs.Level.{decides}
use Rattle.identifier.proofs.order.compare.Goals as goal

pub returns-in-Some-Some : goal.returns-in-Some-Some
returns-in-Some-Some c = search (rules, decides)
