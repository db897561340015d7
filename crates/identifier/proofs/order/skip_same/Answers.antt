-- `identifier::order::skip_same`: how many pairs of the two names' bytes are alike from the front on.
use mathlib.Core.Path.{◌∙◌}
use lib.Dec.{eqb}
use Rattle.std.proofs.Common.{rules}
use borrow.Author.Tests.{tests}
use Rattle.std.specs.List.{zip}
use Rattle.std.proofs.lemmas.Iterator.{YieldsList-from_slice, YieldsList-from_zip}
use Rattle.std.proofs.lemmas.Iterator.Consumers.{count_from_yields_List}
use Rattle.std.proofs.lemmas.Iterator.Search.{YieldsList-from_take_while}
use Rattle.std.proofs.lemmas.List.Folds.{length-prefix_len}
use Rattle.identifier.proofs.Level.{same_to}
use Rattle.identifier.proofs.order.skip_same.Goals as goal

pub returns : goal.returns
returns c =
    let a = c.args.a.now in
    let b = c.args.b.now in
    same_to a b (
    count_from_yields_List c.take_while.result _ c.count.ensures.ran (
    YieldsList-from_take_while _ (λ p. eqb p.0 p.1) (YieldsList-from_zip (YieldsList-from_slice a cc) (YieldsList-from_slice b cc))
    c.take_while.ensures.closure c.take_while.ensures.done (λ x b q k. search (rules, tests))
    )
    ∙ length-prefix_len (λ p. eqb p.0 p.1) (zip a b)
    )
