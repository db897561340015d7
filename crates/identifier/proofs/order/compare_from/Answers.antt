-- `identifier::order::compare_from`: the two iterators give what is left of the forms.
use mathlib.Core.Path.{◌≡◌, refl, ap}
use Rattle.std.specs.Ordering.{nat_cmp}
use Rattle.std.proofs.lemmas.Iterator.Consumers.{YieldsList-from_first}
use Rattle.std.proofs.lemmas.Iterator.Search.{cmp_from_yields_List}
use Rattle.identifier.specs.Left.{form_left}
use Rattle.identifier.proofs.Level.{snake_left}
use Rattle.identifier.proofs.order.compare_from.Goals as goal

pub returns : goal.returns
returns c =
    cmp_from_yields_List (λ x y. y ≡ x) _ nat_cmp _ c.cmp.ensures.ran
    (YieldsList-from_first (λ x. x) form_left (snake_left c.args.state c.args.a.now) cc)
    (λ it e. YieldsList-from_first (λ x. x) form_left {s = it} (snake_left c.args.state c.args.b.now) (ap form_left e)) (λ x y. refl)
