use Rattle.records.proofs.Laws.{nested, wf_base}
use Rattle.records.proofs.put_type.Goals as goal

pub loop-left-preserved : goal.loop-left-preserved
loop-left-preserved c = rw c.next_at-opens.ensures (nested c.loop-left.invariant c.loop-left-test.true c.span_tokens.ensures c.put_record_head.ensures)

pub put_base-requires : goal.put_base-requires
put_base-requires c =
    let p = c.args.p in
    record { stands = c.requires.stands.base; wf = wf_base _ p.close _ p.depth p.opens c.requires.wf }
