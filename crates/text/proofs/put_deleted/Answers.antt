-- `text::put_deleted` meets its contract: there is an index.
use Rattle.text.specs.Text.{deleted_text}
use Rattle.text.proofs.Laws.{chosen}
use Rattle.text.proofs.Parts.{some_index}
use Rattle.text.proofs.put_deleted.Goals as goal

pub returns : goal.returns
unfolding deleted_text
returns c = search (chosen, some_index)
