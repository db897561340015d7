-- Each return is one of three answers.
use Rattle.std.proofs.Common.{arith}
use Rattle.stem.proofs.Laws.{no_stem, uncut, cut_there, dot_inside}
use Rattle.stem.proofs.find.Goals as goal

pub returns-then-is_parent : goal.returns-then-is_parent
returns-then-is_parent c = search no_stem

pub returns-in-0 : goal.returns-in-0
returns-in-0 c = search uncut

pub overflow_add-result : goal.overflow_add-result
overflow_add-result c = omega (arith, dot_inside c.last_part-last.ensures c.last_dot.ensures)

pub returns-in_default : goal.returns-in_default
returns-in_default c = search cut_there
