-- The measure is what is left of the table.
use Rattle.std.proofs.Common.{◌-◌, length}
use Rattle.parser.proofs.+parse_type.Given as goal

abbrev pub decreases-parse_type : goal.decreases-parse_type
decreases-parse_type l = length l.t.now - l.c.at
