-- `identifier::put_form`: the writer holds the same buffer.
use Rattle.std.proofs.Common.{refl}
use Rattle.identifier.proofs.put_form.Goals as goal

pub returns : goal.returns
returns c = record { same = refl; wrote = c.put_at-w.ensures }
