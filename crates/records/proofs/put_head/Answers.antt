use Rattle.records.proofs.Laws.{put_record, described_length}
use Rattle.records.proofs.put_head.Goals as goal

pub returns : goal.returns
returns c =
    let described = c.described_at-described in
    rw c.requires.0.first
    (rw (c.span_tokens-range.ensures, c.declaration_kind.ensures, described.ensures.name, described.ensures.comment)
    at (put_record _ _ _ c.put_record_head.ensures c.put.ensures (rw (c.size.ensures.size, described_length described.result.name.now described.result.whole))))
