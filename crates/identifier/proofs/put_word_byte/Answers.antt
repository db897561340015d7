-- `identifier::put_word_byte`: a later word of a snake form begins with two bytes.
use Rattle.std.proofs.Common.{rules}
use Rattle.wire.specs.Pick.{pick}
use Rattle.wire.proofs.Puts.{then}
use Rattle.identifier.proofs.put_word_byte.Goals as goal

pub returns-in_default-Snake : goal.returns-in_default-Snake
unfolding pick
returns-in_default-Snake c =
    let both = then c.put_byte-in_default-Snake.ensures c.put_byte-in_default-Snake-2.ensures in
    search rules
