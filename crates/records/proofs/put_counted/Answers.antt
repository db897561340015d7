use borrow.Author.Rules.{rules}
use Rattle.wire.proofs.Puts.{parts}
use Rattle.records.proofs.Laws.{whole_comment, counted_none}
use Rattle.records.proofs.put_counted.Goals as goal

pub returns-then-is_empty : goal.returns-then-is_empty
returns-then-is_empty c = rw (counted_none c.args.p.now (search rules)) at c.put_u16.ensures

pub paragraph_count-requires : goal.paragraph_count-requires
paragraph_count-requires c = whole_comment c.requires (search rules)

pub returns : goal.returns
returns c = parts c.put_u16-2.ensures c.put_slice.ensures (rw (c.paragraph_count.ensures, c.requires.again))
