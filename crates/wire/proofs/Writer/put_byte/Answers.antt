-- A byte past the end is dropped.
use Rattle.std.proofs.Common.{arith, refl, sym, [], ◌∷◌}
use Rattle.wire.specs.Put.{over, adv}
use Rattle.wire.proofs.Laws.{over_past}
use Rattle.wire.proofs.Writer.put_byte.Goals as goal

pub returns-then-at-self : goal.returns-then-at-self
unfolding over adv
returns-then-at-self c = record { same = refl; wrote = record { bytes = refl; place = omega arith } }

pub returns-else-at-self : goal.returns-else-at-self
unfolding adv
returns-else-at-self c =
    let past = over_past (c.args.b ∷ []) c.args.self.now.out.now c.args.self.now.at (omega arith) (omega arith) in
    record { same = refl; wrote = record { bytes = sym past; place = c.saturating_add-self.ensures } }
