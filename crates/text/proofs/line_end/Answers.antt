-- `text::line_end` meets its contract.
use Rattle.std.proofs.Common.{ℕ, ◌≡◌, Some, None, rules, refl}
use Rattle.std.specs.Prelude.{Option}
use Rattle.text.specs.Wrap.{LineEnds}
use Rattle.text.proofs.Wrap.{wrap_one}
use Rattle.text.proofs.Lines.{at_last, at_first, one_word_line}
use Rattle.text.proofs.line_end.Goals as goal

pub returns-then-s-width : goal.returns-then-s-width
returns-then-s-width c = wrap_one _ _ c.if-s-width.true

pub returns-in-Some : goal.returns-in-Some
returns-in-Some c = at_last c.args.width c.args.s.now c.in-Some.end c.if-s-width.false (search rules) (search rules) (search rules)

pub returns-in-None : goal.returns-in-None
returns-in-None c = go c.position.result refl
  where
    go : (r : Option ℕ) → c.position.result ≡ r → LineEnds c.args.width c.args.s.now r
    go None e = one_word_line c.args.width c.args.s.now (search rules)
    go (Some end) e = at_first c.args.width c.args.s.now end c.if-s-width.false (search rules) (search rules) (search rules) (search rules)
