-- `names::put_text`: the snake forms of the names that are left are still to be put (`Texted`).
use Rattle.names.specs.Namespace.{text_of}
use Rattle.names.specs.Whole.{whole_of}
use Rattle.names.proofs.Dotted.{Texted}
use Rattle.names.proofs.put_text.Given as goal

abbrev pub invariant-loop-name : goal.invariant-loop-name
invariant-loop-name l =
    goal.iterator-loop-name.can_next l.name-iterator × goal.iterator-loop-name.is_finite l.name-iterator
    × Texted (whole_of l.name-iterator.left.now) l.w l.fn.w (text_of l.fn.ns.bytes.now)
