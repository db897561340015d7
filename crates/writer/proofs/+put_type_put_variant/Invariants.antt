-- `writer::put_type` and `writer::put_variant` call one another, and the arrays still inside fall.
use Rattle.std.proofs.Common.{◌+◌}
use Rattle.writer.proofs.+put_type_put_variant.Given as goal

abbrev pub decreases-put_type : goal.decreases-put_type
decreases-put_type l = l.left + l.left + 1

abbrev pub decreases-put_variant : goal.decreases-put_variant
decreases-put_variant l = l.left + l.left
