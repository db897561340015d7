-- `text::put_comment` meets its contract: the paragraph that comes next lies whole in what is left.
use Rattle.std.proofs.Common.{arith, length-drop}
use Rattle.std.proofs.lemmas.List.{take_rest}
use Rattle.text.proofs.Comment.{commenting_begin, commenting_page, commenting_more, commenting_done}
use Rattle.text.proofs.put_comment.Goals as goal

pub loop-rest-init : goal.loop-rest-init
loop-rest-init c = commenting_begin _ c.requires

pub u16_at-size-requires : goal.u16_at-size-requires
u16_at-size-requires c = (commenting_page c.loop-rest.invariant c.loop-rest-test.ensures).head

pub slice_bounds-split_at-count : goal.slice_bounds-split_at-count
slice_bounds-split_at-count c = (commenting_page c.loop-rest.invariant c.loop-rest-test.ensures).head

pub slice_bounds-split_at-start : goal.slice_bounds-split_at-start
slice_bounds-split_at-start c = (commenting_page c.loop-rest.invariant c.loop-rest-test.ensures).head

pub split_at-requires : goal.split_at-requires
split_at-requires c =
    let p = commenting_page c.loop-rest.invariant c.loop-rest-test.ensures in
    rw take_rest (omega (arith, p.tail, c.u16_at-size.ensures, length-drop 2 c.loop-rest.rest.now))

pub loop-rest-preserved : goal.loop-rest-preserved
loop-rest-preserved c =
    commenting_more c.loop-rest.invariant c.loop-rest-test.ensures c.u16_at-size.ensures c.put_mark.ensures c.put_paragraph.ensures c.split_at.ensures.front
    c.split_at.ensures.back

pub returns : goal.returns
returns c = commenting_done c.loop-rest.invariant c.loop-rest-test.ensures
