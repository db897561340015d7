-- `identifier::tables::is_name`: the two tests as they stand.
use Rattle.std.proofs.Common.{rules, arith}
use borrow.Author.Tests.{tests}
use Rattle.std.proofs.lemmas.Iterator.{YieldsList-from_slice}
use Rattle.std.proofs.lemmas.Iterator.Search.{all_from_yields_List}
use Rattle.identifier.specs.Byte.{is_printable}
use Rattle.identifier.specs.Name.{is_name}
use Rattle.identifier.proofs.tables.is_name.Goals as goal

pub returns-then-contains : goal.returns-then-contains
unfolding is_name
returns-then-contains c =
    let bytes = YieldsList-from_slice c.args.name.now cc in
    let all = all_from_yields_List is_printable _ _ c.all.result c.all.ensures.ran bytes (λ x b q k. search (rules, tests)) in
    grind (arith, all)

pub returns-else-contains : goal.returns-else-contains
unfolding is_name
returns-else-contains c = search rules
