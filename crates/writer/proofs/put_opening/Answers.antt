-- `writer::put_opening` meets its contract.
use Rattle.std.proofs.Common.{◌≡◌, ◌<◌, Bool, true, false, not, eqb, length, sym, ◌∙◌, arith}
use borrow.Author.Tests.{ne_eqb, eqb-true, eqb-false}
use Rattle.wire.specs.Bytes.{Bytes}
use Rattle.schema.specs.declared.kind.Kind.TheVariants.{Comment}
use Rattle.schema.proofs.Known.{same, differs}
use Rattle.schema.proofs.Walk.{stands_start, record_at}
use Rattle.text.proofs.Parts.{comment_parts}
use Rattle.writer.proofs.Imports.{CommentAt, comment_at, commented, uncommented_end, uncommented_other}
use Rattle.writer.proofs.put_opening.Goals.{Else-ne, then-is_empty-via-then-is_empty, then-is_empty-via-else-is_empty+then-ne}
use Rattle.writer.proofs.put_opening.Goals as goal

some : (t : Bytes) → false ≡ eqb (length t) 0 → 0 < length t
some t e = omega (arith, eqb-false (length t) 0 (sym e))

-- a `!=` is the test turned round
turned : (a b : Bool) → a ≡ not b → not a ≡ b
turned a true e = rw e
turned a false e = rw e

-- the schema comment's record
here : (c : Else-ne) → CommentAt c.args.t.now
here c = comment_at _ c.requires (some _ c.if-is_empty.ensures) (same _ Comment c.known_kind_at.ensures (turned _ _ c.if-ne.ensures))

pub known_kind_at-requires : goal.known_kind_at-requires
known_kind_at-requires c = let r = record_at (stands_start _ c.requires) (some _ c.if-is_empty.ensures) in (r.whole, r.right)

pub returns-then-is_empty : goal.returns-then-is_empty
returns-then-is_empty c =
    elim c.then-is_empty.branch [
      | then-is_empty-via-then-is_empty d ↦ uncommented_end _ c.requires (omega (arith, eqb-true _ _ (sym c.is_empty.ensures ∙ d.if-is_empty.true)))
      | then-is_empty-via-else-is_empty+then-ne d ↦
          uncommented_other _ c.requires (some _ (sym d.if-is_empty.false ∙ c.is_empty.ensures))
          (ne_eqb _ _ (differs _ Comment d.known_kind_at.ensures (turned _ _ d.if-ne.ensures)))
    ]

pub next_at-next-requires : goal.next_at-next-requires
next_at-next-requires c = let w = (here (goal.at.next_at-next-requires c).Else-ne).whole in (omega (arith, w), w.tail)

pub payload_at-requires : goal.payload_at-requires
payload_at-requires c = (here (goal.at.payload_at-requires c).Else-ne).whole

pub put_comment-requires : goal.put_comment-requires
put_comment-requires c = rw c.payload_at.ensures (comment_parts _ (here (goal.at.put_comment-requires c).Else-ne).right).paragraphs

pub returns : goal.returns
returns c =
    commented (here (goal.at.returns c).Else-ne) c.next_at-next.ensures (rw c.payload_at.ensures at c.put_comment.ensures) c.put_blank.ensures
