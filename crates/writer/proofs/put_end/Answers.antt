-- `writer::put_end` meets its contract.
use Rattle.std.proofs.Common.{arith}
use borrow.Author.Tests.{ne_eqb}
use Rattle.schema.specs.declared.kind.Kind.TheVariants.{Deleted}
use Rattle.schema.proofs.Known.{same, differs}
use Rattle.schema.proofs.Walk.{record_at}
use Rattle.writer.proofs.Declarations.{DeletedAt, deleted_at, ended_deleted, ended_end, ended_other}
use Rattle.writer.proofs.put_end.Goals.{Then-eq, then-at-t+then-eq, else-at-t}
use Rattle.writer.proofs.put_end.Goals.{else-at-t-via-then-at-t+else-eq, else-at-t-via-else-at-t}
use Rattle.writer.proofs.put_end.Goals as goal

-- the deleted record
here : (c : Then-eq) → DeletedAt c.args.t.now c.args.at
here c = deleted_at c.requires c.if-at-t.true (same _ Deleted c.known_kind_at.ensures c.if-eq.ensures)

pub known_kind_at-requires : goal.known_kind_at-requires
known_kind_at-requires c = let r = (record_at c.requires.stands c.if-at-t.true) in (r.whole, r.right)

pub payload_at-requires : goal.payload_at-requires
payload_at-requires c = (here (goal.at.payload_at-requires c).Then-eq).whole

pub put_deleted-requires : goal.put_deleted-requires
put_deleted-requires c = rw c.payload_at.ensures (here (goal.at.put_deleted-requires c).Then-eq).right

pub next_at-next-requires : goal.next_at-next-requires
next_at-next-requires c =
    let w = (here (goal.at.next_at-next-requires c).Then-eq).whole in
    (omega (arith, w), w.tail)

pub returns : goal.returns
returns c =
    elim c.if-at-t.branch [
      | then-at-t+then-eq d ↦
          rw d.next-is
          (ended_deleted (deleted_at c.requires d.if-at-t.true (same _ Deleted d.known_kind_at.ensures d.if-eq.ensures)) d.next_at-next.ensures
          (rw d.payload_at.ensures at d.put_deleted.ensures) (rw d.w-is at c.put_slice.ensures))
      | else-at-t d ↦
          rw d.next-is
          (elim d.else-at-t.branch [
            | else-at-t-via-then-at-t+else-eq e ↦
                ended_other c.requires e.if-at-t.true (ne_eqb _ _ (differs _ Deleted e.known_kind_at.ensures e.if-eq.ensures))
                (rw d.w-is at c.put_slice.ensures)
            | else-at-t-via-else-at-t e ↦ ended_end c.requires e.if-at-t.false (rw d.w-is at c.put_slice.ensures)
          ])
    ]
