-- `text::put_field_index` meets its contract.
use Rattle.text.specs.Text.{field_index}
use Rattle.text.proofs.Laws.{chosen}
use Rattle.text.proofs.put_field_index.Goals as goal

pub returns : goal.returns
unfolding field_index
returns c = search chosen
