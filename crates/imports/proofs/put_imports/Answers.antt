-- `imports::put_imports` meets its contract: each import's record is put behind those before it,
-- and past the last one none is left to put.
use mathlib.Core.Path.{refl}
use Rattle.imports.proofs.Laws.{put_one, put_all}
use Rattle.imports.proofs.put_imports.Goals as goal

pub loop-x-preserved : goal.loop-x-preserved
loop-x-preserved c = put_one c.loop-x.invariant c.loop-x-test.true refl c.put_import.ensures

pub returns : goal.returns
returns c = put_all c.loop-x.invariant c.loop-x-test.false refl
