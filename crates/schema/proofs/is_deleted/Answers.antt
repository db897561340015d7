-- The chunks hold the indices, and the bytes after them are none.
use Prim.Native.Nat.{◌%◌, ◌≤◌}
use mathlib.Core.Path.{◌≡◌}
use lib.Dec.{ltb}
use lib.ListN.{length}
use Rattle.std.proofs.Common.{rules, tests}
use Rattle.std.proofs.lemmas.List.Sorted.{answers_always}
use Rattle.std.specs.List.{IsAllAdjacentAnswer}
use Rattle.schema.proofs.Scans.{index_of, Rising, deleted_is}
use Rattle.schema.proofs.is_deleted.Goals as goal

pub returns : goal.returns
returns c =
    let h : 1 ≤ length c.args.p.now = search rules in
    let w : length c.args.p.now % 8 ≡ 0 = search rules in
    let a : IsAllAdjacentAnswer Rising c.as_chunks.result.0.now c.is_sorted_by.result =
    c.is_sorted_by.ensures.cases (λ x y. ltb (index_of x) (index_of y)) (answers_always _ _ _ (λ f a r q k. search (rules, tests))) in
    deleted_is c.args.p.now c.as_chunks.ensures.front h w a
