-- std's chain says the rule in std's word.
use Rattle.std.proofs.Common.{rules, tests}
use Rattle.std.proofs.lemmas.Iterator.{YieldsList-from_slice}
use Rattle.std.proofs.lemmas.Iterator.Search.{all_from_yields_List}
use Rattle.wire.proofs.Choice.{choice}
use Rattle.token.specs.Payload.{is_path_byte, is_path}
use Rattle.token.proofs.Laws.{all_is}
use Rattle.token.proofs.is_path.Goals as goal

pub returns-then-p-le-LONGEST : goal.returns-then-p-le-LONGEST
unfolding is_path
returns-then-p-le-LONGEST c =
    let e = all_from_yields_List is_path_byte _ _ c.all.result c.all.ensures.ran (YieldsList-from_slice c.args.p.now cc) (λ x b q k. search (rules, tests)) in
    rw (all_is is_path_byte c.args.p.now) (search choice)
