-- `text::put_line` meets its contract.
use Rattle.wire.proofs.Puts.{then}
use Rattle.text.specs.Text.{line_text}
use Rattle.text.proofs.put_line.Goals as goal

pub returns : goal.returns
unfolding line_text
returns c = search then
