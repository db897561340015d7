-- `writer::put_declaration` meets its contract.
use Rattle.std.proofs.Common.{arith}
use Rattle.schema.proofs.Walk.{record_at}
use Rattle.writer.proofs.Declarations.{head_at_lem, declared}
use Rattle.writer.proofs.put_declaration.Goals as goal

pub next_at-first-requires : goal.next_at-first-requires
next_at-first-requires c = let w = (head_at_lem c.requires.0 c.requires.1).whole in (omega (arith, w), w.tail)

pub known_kind_at-requires : goal.known_kind_at-requires
known_kind_at-requires c = let r = record_at c.requires.0.stands c.requires.1 in (r.whole, r.right)

pub payload_at-requires : goal.payload_at-requires
payload_at-requires c = (head_at_lem c.requires.0 c.requires.1).whole

pub put_head_of_kind-requires : goal.put_head_of_kind-requires
put_head_of_kind-requires c = rw c.payload_at.ensures (head_at_lem c.requires.0 c.requires.1).right

pub put_fields-end-requires : goal.put_fields-end-requires
put_fields-end-requires c = rw c.next_at-first.ensures (head_at_lem c.requires.0 c.requires.1).inside

pub put_end-requires : goal.put_end-requires
put_end-requires c = c.put_fields-end.ensures.fielded

pub returns : goal.returns
returns c =
    let n = c.next_at-first.ensures in
    declared (head_at_lem c.requires.0 c.requires.1) (rw (c.known_kind_at.ensures, c.payload_at.ensures) at c.put_head_of_kind.ensures)
    (rw n at c.put_fields-end.ensures)
    (rw n at c.put_end.ensures)
