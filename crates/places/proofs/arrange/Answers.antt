-- `places::arrange` meets its contract: the first items are lent, come back sorted, and where two are the same are lent again.
use mathlib.Core.Path.{sym}
use Rattle.places.proofs.Arranging.{lent_size, lent_room, back_few, back_size, back_each, arranged, arranged_repeats}
use Rattle.places.proofs.arrange.Goals as goal

pub slice_bounds-sort-end-2 : goal.slice_bounds-sort-end-2
slice_bounds-sort-end-2 g c = sym (lent_size c.requires)

pub sort-requires : goal.sort-requires
sort-requires g c =
    let pre = c.requires in
    (pre.each, lent_room pre)

pub slice_bounds-keep_repeats-end : goal.slice_bounds-keep_repeats-end
slice_bounds-keep_repeats-end g c =
    let sort = c.sort in
    let pre = c.requires in
    back_few pre sort.ensures

pub slice_bounds-keep_repeats-end-then-sort : goal.slice_bounds-keep_repeats-end-then-sort
slice_bounds-keep_repeats-end-then-sort g c =
    let sort = c.sort in
    let pre = c.requires in
    sym (back_size pre sort.ensures)

pub keep_repeats-requires : goal.keep_repeats-requires
keep_repeats-requires g c =
    let sort = c.sort in
    let pre = c.requires in
    back_each pre sort.ensures

pub returns-then-sort : goal.returns-then-sort
returns-then-sort g c =
    let keep-repeats = c.keep_repeats in
    let if1 = c.if-sort in
    let sort = c.sort in
    let pre = c.requires in
    arranged_repeats pre sort.ensures if1.true keep-repeats.ensures

pub returns : goal.returns
returns g c =
    let sort = c.sort in
    let pre = c.requires in
    arranged pre sort.ensures c.if-sort.false
