-- By what the reader answered.
use Rattle.std.proofs.Common.{arith, ap, ◌∙◌, Ok}
use Rattle.printed.proofs.Texts.{print_line, print_lines, print_text}
use Rattle.printed.proofs.print_into.Goals as goal

pub returns-in-Ok-Schema : goal.returns-in-Ok-Schema
returns-in-Ok-Schema c =
    let e = c.in-Ok-Schema.is ∙ ap Ok c.in-Ok-Schema.field-0-is in
    print_text c.requires.0 c.read.ensures (c.requires.1, omega arith) e c.print_schema.ensures

pub returns-in-Ok-Errors : goal.returns-in-Ok-Errors
returns-in-Ok-Errors c =
    let e = c.in-Ok-Errors.is ∙ ap Ok c.in-Ok-Errors.field-0-is in
    print_lines c.requires.0 c.read.ensures (c.requires.1, omega arith) e c.print_errors.ensures

pub returns-in-Err : goal.returns-in-Err
returns-in-Err c = print_line c.requires.0 c.read.ensures (c.requires.1, omega arith) c.in-Err.is c.print_refusal.ensures
