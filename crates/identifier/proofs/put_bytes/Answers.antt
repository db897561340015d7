-- `identifier::put_bytes`: what is left of the form at a place of the name is what is left to put.
use Rattle.std.proofs.Common.{rules, sym, ◌∙◌}
use Rattle.wire.proofs.Puts.{puts_none, rest_all, rest_step, rest_none}
use Rattle.identifier.proofs.Left.{left_past, left_word, left_end}
use Rattle.identifier.proofs.put_bytes.Goals as goal
use Rattle.identifier.proofs.put_bytes.Goals.{then-is_break, else-is_break}

pub loop-b-init : goal.loop-b-init
loop-b-init c = search (rules, rest_all)

pub loop-b-preserved : goal.loop-b-preserved
loop-b-preserved c =
    elim c.if-is_break.branch [
      | then-is_break w ↦
          rw (w.w-is, w.state-is, w.after-state.ensures) (rest_step puts_none c.loop-b.invariant
          (left_past c.args.case c.loop-b.state c.args.name.now c.loop-b-test.true (sym c.is_break.ensures ∙ w.if-is_break.true)))
      | else-is_break w ↦
          rw (w.w-is, w.state-is) (rest_step w.put_word_byte.ensures c.loop-b.invariant
          (left_word c.args.case c.loop-b.state c.args.name.now c.loop-b-test.true (sym c.is_break.ensures ∙ w.if-is_break.false)))
    ]

pub returns : goal.returns
returns c = rest_none c.loop-b.invariant (left_end c.args.case c.loop-b.state c.args.name.now c.loop-b-test.false)
