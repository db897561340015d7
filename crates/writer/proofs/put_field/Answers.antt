-- `writer::put_field` meets its contract.
use native.Mathlib.Omega.{arith}
use Rattle.std.proofs.lemmas.List.{take_rest}
use Rattle.wire.proofs.Puts.{then}
use Rattle.text.proofs.Parts.{field_parts}
use Rattle.writer.specs.Parts.{field_from}
use Rattle.writer.proofs.put_field.Goals as goal

pub bounds-p-0 : goal.bounds-p-0
bounds-p-0 c = omega (arith, field_parts c.requires.0)

pub slice_bounds-put_field_name-count : goal.slice_bounds-put_field_name-count
slice_bounds-put_field_name-count c = (field_parts c.requires.0).room

pub slice_bounds-put_field_name-start : goal.slice_bounds-put_field_name-start
slice_bounds-put_field_name-start c = (field_parts c.requires.0).room

pub put_field_name-requires : goal.put_field_name-requires
put_field_name-requires c = rw take_rest (field_parts c.requires.0).named

pub u64_at-requires : goal.u64_at-requires
u64_at-requires c = omega (arith, field_parts c.requires.0)

pub returns : goal.returns
unfolding field_from
returns c = then (then (rw take_rest at c.put_field_name.ensures) c.put_field_type.ensures) (rw c.u64_at.ensures at c.put_field_index.ensures)
