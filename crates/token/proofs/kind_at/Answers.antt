-- A record that the check has passed has a known kind.
use native.Mathlib.Omega.{arith}
use Rattle.token.proofs.Known.{decodes}
use Rattle.token.proofs.Walk.{wf_good}
use Rattle.token.proofs.kind_at.Goals as goal

pub unwrap-requires : goal.unwrap-requires
unwrap-requires c =
    let known = (wf_good c.requires.0 c.requires.1).sound.known in
    let e = c.number_at.ensures in
    decodes _ _ c.try_from.ensures (omega (arith, known.0, e)) (omega (arith, known.1, e))
