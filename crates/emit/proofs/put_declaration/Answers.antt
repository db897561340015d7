use native.Mathlib.Omega.{arith}
use Rattle.emit.proofs.Walks.{head_here, body_clear, body_room, right_kind, right_stands, declaration_put}
use Rattle.emit.proofs.put_declaration.Goals as goal

pub put_head-requires : goal.put_head-requires
put_head-requires c =
    let clear = c.requires.0 in
    (head_here clear c.in-Ok.ensures, right_stands clear c.in-Ok.ensures c.find_right-right.ensures)

pub put_fields-past-requires : goal.put_fields-past-requires
put_fields-past-requires c = body_clear c.requires.0 c.in-Ok.ensures

pub put_deleted-requires : goal.put_deleted-requires
put_deleted-requires c =
    let past = c.put_fields-past in
    (past.ensures.wf, body_room c.requires.0 c.in-Ok.ensures c.requires.1 past.ensures)

pub next-requires : goal.next-requires
next-requires c =
    let right = c.find_right-right in
    (right.ensures.wf, omega (arith, right_kind c.requires.0 c.in-Ok.ensures right.ensures))

pub returns : goal.returns
returns c =
    declaration_put c.requires.0 c.in-Ok.ensures c.find_right-right.ensures c.put_head.ensures c.put_fields-past.ensures c.put_deleted.ensures
    c.next.ensures
