use Rattle.std.proofs.Common.{arith, refl, sym, ◌∙◌}
use Rattle.wire.proofs.Laws.{adv_is}
use Rattle.wire.proofs.Writer.put_slice.Goals as goal

pub returns : goal.returns
returns c = record { same = refl; wrote = record { bytes = c.lay.ensures; place = c.saturating_add-self.ensures ∙ sym (adv_is _ _ (omega arith)) } }
