use native.Mathlib.Omega.{arith}
use Rattle.records.proofs.Laws.{put_record, put_field_payload, field_length}
use Rattle.records.proofs.put_field_record.Goals as goal

pub returns : goal.returns
returns c =
    let described = c.described_at-described in
    let rule = c.number.result in
    let index = c.integer_at.result in
    let name = described.result.name.now in
    let comment = described.result.comment.now in
    rw c.requires.first
    (rw (c.span_tokens-range.ensures, c.number.ensures, c.rule_at.ensures, c.integer_at.ensures, described.ensures.name, described.ensures.comment)
    at (put_record _ _ _ c.put_record_head.ensures
    (put_field_payload rule index name comment c.put_byte.ensures c.put_u64.ensures c.put.ensures)
    (omega (arith, c.size.ensures.size, field_length rule index name described.result.whole))))
