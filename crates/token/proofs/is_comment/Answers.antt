-- Paragraph by paragraph, of which at most 32 may come.
use Prim.Native.Nat.{◌+◌, ◌-◌, ◌≤◌}
use mathlib.Core.Path.{◌≡◌, sym}
use native.Mathlib.Omega.{arith}
use lib.ListN.{length}
use Rattle.std.proofs.Common.{rules}
use Rattle.token.proofs.Laws.{turned_out, turned_short, turned_wrong, turned_last, turned_next}
use Rattle.token.proofs.is_comment.Goals as goal

pub returns-in_default : goal.returns-in_default
returns-in_default c = turned_short c.loop.invariant (λ z. omega arith) c.in_default.ensures

pub returns-then-not-is_paragraph : goal.returns-then-not-is_paragraph
returns-then-not-is_paragraph c =
    turned_wrong c.loop.invariant (λ z. omega arith) c.in-Some.ensures (sym c.if-not-is_paragraph.ensures)

pub returns-then-is_empty : goal.returns-then-is_empty
returns-then-is_empty c =
    let z : length c.in-Some.after.now ≡ 0 = search rules in
    turned_last c.loop.invariant (λ z. omega arith) c.in-Some.ensures (sym c.if-not-is_paragraph.ensures) z

pub loop-preserved : goal.loop-preserved
loop-preserved c =
    let z : 1 ≤ length c.in-Some.after.now = search rules in
    let n : 32 - (c.loop.counter + 1) ≡ 32 - c.loop.counter - 1 = omega arith in
    rw n (turned_next c.loop.invariant (λ z. omega arith) c.in-Some.ensures (sym c.if-not-is_paragraph.ensures) z)

pub returns : goal.returns
returns c = let n : 32 - c.loop.counter ≡ 0 = omega arith in turned_out (rw n at c.loop.invariant)
