-- `writer::has_comment` meets its contract.
use Rattle.std.proofs.lemmas.List.{take_rest}
use Rattle.text.proofs.Parts.{head_parts, field_parts}
use Rattle.writer.proofs.Fields.{commented_is}
use Rattle.writer.proofs.has_comment.Goals as goal

pub slice_bounds-after_name-count : goal.slice_bounds-after_name-count
slice_bounds-after_name-count c = (field_parts c.requires).room

pub slice_bounds-after_name-start : goal.slice_bounds-after_name-start
slice_bounds-after_name-start c = (field_parts c.requires).room

pub after_name-requires : goal.after_name-requires
after_name-requires c = rw take_rest (head_parts (field_parts c.requires).named).sized

pub returns : goal.returns
returns c = rw (c.after_name.ensures, take_rest) (commented_is _)
