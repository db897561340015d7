use native.Mathlib.Omega.{arith}
use Rattle.records.proofs.Laws.{name_short}
use Rattle.records.proofs.put_dotted.Goals as goal

pub put_named_of_kind-requires : goal.put_named_of_kind-requires
put_named_of_kind-requires c =
    let here = c.requires in
    rw (c.payload_at.ensures, c.payload_at-2.ensures, c.next_at-name.ensures, c.next_at.ensures)
    (omega (arith, name_short here.stands.0 here.wf.0, name_short here.stands.2 here.wf.2))
