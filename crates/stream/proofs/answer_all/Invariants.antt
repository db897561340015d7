-- What is lent for a table keeps its length from entry to entry.
use Rattle.std.proofs.Common.{◌≡◌, length}
use Rattle.stream.proofs.answer_all.Given as goal

-- A `for` needs no measure: a list has fewer than a million entries,
-- and each turn leaves one less.
abbrev pub invariant-loop-n : goal.invariant-loop-n
invariant-loop-n l = length l.table ≡ length l.initial.table
