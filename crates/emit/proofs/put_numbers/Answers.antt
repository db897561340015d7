use mathlib.Core.Path.{refl}
use Rattle.imports.proofs.Laws.{put_one, put_all}
use Rattle.emit.proofs.put_numbers.Goals as goal

pub loop-n-preserved : goal.loop-n-preserved
loop-n-preserved c = put_one c.loop-n.invariant c.loop-n-test.true refl c.put_u64.ensures

pub returns : goal.returns
returns c = put_all c.loop-n.invariant c.loop-n-test.false refl
