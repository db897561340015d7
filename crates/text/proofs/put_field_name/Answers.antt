-- `text::put_field_name` meets its contract: the payload holds a name and a comment.
use Rattle.wire.proofs.Puts.{then}
use Rattle.text.specs.Text.{field_name}
use Rattle.text.proofs.Parts.{head_parts}
use Rattle.text.proofs.put_field_name.Goals as goal

pub after_name-requires : goal.after_name-requires
after_name-requires c = (head_parts c.requires).sized

pub put_counted-requires : goal.put_counted-requires
put_counted-requires c =
    let h = head_parts c.requires in
    rw c.after_name.ensures (h.room, h.paragraphs)

pub name_of-requires : goal.name_of-requires
name_of-requires c = (head_parts c.requires).sized

pub returns : goal.returns
unfolding field_name
returns c = rw (← c.after_name.ensures, ← c.name_of.ensures) (search then)
