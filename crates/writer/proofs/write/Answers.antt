-- `writer::write` meets its contract.
use Rattle.std.proofs.Common.{◌≡◌, Err, rules, sym, ◌∙◌}
use Rattle.schema.proofs.Verdict.{fine}
use Rattle.writer.proofs.Answers.{empty, refused}
use Rattle.writer.proofs.write.Goals as goal

pub returns-then-is_empty : goal.returns-then-is_empty
returns-then-is_empty c = empty _ _ (sym c.is_empty.ensures ∙ c.if-is_empty.true)

pub returns-in_err-check : goal.returns-in_err-check
returns-in_err-check c =
    let same : c.from_residual.result ≡ Err c.in_err-check.field-0.0 = search rules in
    rw same (refused c.args.t.now c.args.out.now c.in_err-check.field-0.0 (sym c.check.ensures ∙ c.in_err-check.was))

pub write_table-requires : goal.write_table-requires
write_table-requires c =
    let p = fine c.args.t.now (sym c.check.ensures ∙ c.in_ok-check.was) in
    (p.small, p.right)
