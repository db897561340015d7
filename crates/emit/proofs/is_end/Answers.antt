-- `emit::is_end`: at the list's end no token is left.
use Rattle.std.proofs.Common.{rules, ◌≡◌}
use Rattle.grammar.specs.Error.{kind_at}
use Rattle.parser.specs.Steps.{ahead}
use Rattle.parser.proofs.Laws.{none_left}
use Rattle.emit.proofs.is_end.Goals as goal

pub returns-in-None : goal.returns-in-None
returns-in-None c = let e : kind_at (ahead c.args.t.now c.args.c) ≡ 0 = search rules in rw (none_left _ _ c.requires e)
