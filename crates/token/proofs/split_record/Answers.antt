-- The head's numbers and the payload are those of the token that the bytes begin with.
use Rattle.std.proofs.Common.{rules}
use Rattle.token.specs.Table.{token_of}
use Rattle.token.proofs.Laws.{part_from}
use Rattle.token.proofs.split_record.Goals as goal

pub returns : goal.returns
unfolding token_of
returns c =
    let n = c.u16_at-size.ensures in
    record {
      whole = search rules;
      first = rw (c.u16_at.ensures, c.u32_at.ensures, c.u32_at-2.ensures, n);
      later = rw (part_from c.args.bs.now c.u16_at-size.result, n);
    }
