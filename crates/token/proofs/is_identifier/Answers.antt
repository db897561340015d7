-- std's chain says the rule in std's word.
use Prim.Native.Nat.{◌≤◌}
use lib.ListN.{length}
use Rattle.std.proofs.Common.{rules, tests}
use Rattle.std.proofs.lemmas.Iterator.{YieldsList-from_slice}
use Rattle.std.proofs.lemmas.Iterator.Search.{all_from_yields_List}
use Rattle.wire.proofs.Choice.{choice}
use Rattle.token.specs.Payload.{is_name_byte, is_identifier}
use Rattle.token.proofs.Laws.{all_is}
use Rattle.token.proofs.is_identifier.Goals as goal

pub returns : goal.returns
unfolding is_identifier
returns c =
    let e = all_from_yields_List is_name_byte _ _ c.all.result c.all.ensures.ran (YieldsList-from_slice c.args.p.now cc) (λ x b q k. search (rules, tests)) in
    let z : 1 ≤ length c.args.p.now = search rules in
    rw (all_is is_name_byte c.args.p.now, ← c.is_name_start.ensures) (search choice)
