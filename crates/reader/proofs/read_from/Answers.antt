-- The check refuses, or the lists are made as long as the table wants them.
use Rattle.std.proofs.Common.{◌≡◌, Err, arith, rules, sym, ◌∙◌}
use borrow.Author.Tests.{eqb-true}
use Rattle.token.proofs.Laws.{part_from}
use Rattle.token.proofs.Walk.{wf_few}
use Rattle.reader.proofs.Laws.{nothing_read, passed, stopped}
use Rattle.reader.proofs.read_from.Goals as goal

pub returns-then-is_empty : goal.returns-then-is_empty
returns-then-is_empty c =
    nothing_read c.args.out.now (rw (part_from c.args.table.now c.args.at) at (eqb-true _ _ (sym c.is_empty.ensures ∙ c.if-is_empty.true)))

pub returns-in_err-checked : goal.returns-in_err-checked
returns-in_err-checked c =
    let same : c.from_residual.result ≡ Err c.in_err-checked.field-0.0 = search rules in
    rw (same, ← part_from c.args.table.now c.args.at) (stopped c.args.out.now c.in_err-checked.ensures)

pub read_sized-requires : goal.read_sized-requires
read_sized-requires c = let p = passed c.in_ok-checked.ensures in (p.0, omega (arith, p.1), omega arith)

pub read_sized-requires-in-9-to-64 : goal.read_sized-requires-in-9-to-64
read_sized-requires-in-9-to-64 c = let p = passed c.in_ok-checked.ensures in (p.0, omega (arith, p.1), omega arith)

pub read_sized-requires-in-65-to-1024 : goal.read_sized-requires-in-65-to-1024
read_sized-requires-in-65-to-1024 c = let p = passed c.in_ok-checked.ensures in (p.0, omega (arith, p.1), omega arith)

pub read_sized-requires-in_default : goal.read_sized-requires-in_default
read_sized-requires-in_default c = let p = passed c.in_ok-checked.ensures in (p.0, wf_few p.0.wf, omega arith)
