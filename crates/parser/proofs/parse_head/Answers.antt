-- The keyword follows an optional comment; what stands in its place is told at the comment only where that ends the list.
use mathlib.Core.Path.{sym, ◌∙◌, ap}
use Rattle.token.specs.Kind.{is_keyword}
use Rattle.token.proofs.Known.{some_kind}
use Rattle.parser.proofs.Laws.{handed}
use Rattle.parser.proofs.Heads.{comment_ends, goes, no_comment, keyword_fails, Begun, name_fails, left_fails, head}
use Rattle.parser.proofs.parse_head.Goals.{After-missing_name}
use Rattle.parser.proofs.parse_head.Goals as goal

begun : (c : After-missing_name) → Begun c.args.t.now c.args.c c.skip_comment-comment.result c.in-Some.kind c.next-name.result
begun c =
    record {
      wf = c.requires;
      comment = c.skip_comment-comment.ensures;
      here = c.in-Some.ensures;
      keyword = sym c.if-is_keyword.ensures;
      step = c.next-name.ensures;
    }

pub peek-requires : goal.peek-requires
peek-requires c = c.skip_comment-comment.ensures.read.wf

pub returns-in-None : goal.returns-in-None
returns-in-None c =
    comment_ends c.skip_comment-comment.ensures c.requires (sym c.if-is_some.ensures) (sym c.in-None.ensures)

pub returns-in_default : goal.returns-in_default
returns-in_default c =
    keyword_fails c.skip_comment-comment.ensures (goes _ _ _ c.in-Some.ensures)
    (sym (c.if-is_keyword.ensures ∙ ap is_keyword c.in-Some.ensures))

pub returns-in_default-2 : goal.returns-in_default-2
returns-in_default-2 c =
    keyword_fails c.skip_comment-comment.ensures (no_comment _ _ (sym c.if-is_some.ensures)) (rw (← c.in-None.ensures))

pub next-name-requires : goal.next-name-requires
next-name-requires c =
    (c.skip_comment-comment.ensures.read.wf, rw (← c.in-Some.ensures) (some_kind c.in-Some.kind))

pub returns-in_err-left : goal.returns-in_err-left
returns-in_err-left c =
    handed _ _ _ _ c.from_residual.ensures.1
    (name_fails (begun (goal.at.returns-in_err-left c).After-missing_name) c.missing_name.ensures c.in_err-left.ensures)

pub returns-in_err-after : goal.returns-in_err-after
returns-in_err-after c =
    handed _ _ _ _ c.from_residual-in_err-after.ensures.1
    (left_fails (begun (goal.at.returns-in_err-after c).After-missing_name) c.missing_name.ensures c.in_ok-left.ensures c.in_err-after.ensures)

pub returns : goal.returns
returns c = head (begun (goal.at.returns c).After-missing_name) c.missing_name.ensures c.in_ok-left.ensures c.in_ok-after.ensures
