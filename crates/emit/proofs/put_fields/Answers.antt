use mathlib.Core.Path.{sym, ◌∙◌}
use Rattle.emit.proofs.Walks.{field_here, fields_put, field_put}
use Rattle.emit.proofs.put_fields.Goals as goal

pub put_field-requires : goal.put_field-requires
put_field-requires c = field_here c.in-Ok.ensures

pub loop-c-preserved : goal.loop-c-preserved
loop-c-preserved c = field_put c.loop-c.invariant (sym c.is_end.ensures ∙ c.loop-c-test.true) c.in-Ok.ensures c.put_field.ensures

pub returns : goal.returns
returns c = fields_put c.loop-c.invariant (sym c.is_end.ensures ∙ c.loop-c-test.false)
