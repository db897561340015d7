-- Nothing follows the count, or a comment does.
use Prim.Native.Nat.{◌≤◌}
use mathlib.Core.Path.{◌≡◌, refl, sym}
use lib.ListN.{length}
use Rattle.std.proofs.Common.{rules}
use Rattle.schema.proofs.Scans.{rest, counted_none, counted_not, counted_all}
use Rattle.schema.proofs.is_counted.Goals as goal

pub returns-then-is_empty : goal.returns-then-is_empty
returns-then-is_empty c =
    let p = c.args.p.now in
    let z : length (rest p c.if-p-lt2.false) ≡ 0 = search rules in
    counted_none p c.if-p-lt2.false z c.u16_at-count.ensures

pub returns-then-is_comment : goal.returns-then-is_comment
returns-then-is_comment c =
    let p = c.args.p.now in
    let z : 1 ≤ length (rest p c.if-p-lt2.false) = search rules in
    counted_all p c.if-p-lt2.false z (sym c.if-is_comment.ensures) refl c.u16_at-count.ensures c.paragraph_count.ensures

pub returns-else-is_comment : goal.returns-else-is_comment
returns-else-is_comment c =
    let p = c.args.p.now in
    let z : 1 ≤ length (rest p c.if-p-lt2.false) = search rules in
    rw c.if-is_comment.false (counted_not p c.if-p-lt2.false z (sym c.if-is_comment.ensures) refl)
