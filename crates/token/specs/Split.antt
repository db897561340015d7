-- What is split off the front of bytes: a record, or a part after its u16 length.
use Rattle.std.specs.Prelude.{◌≡◌, ◌+◌, ◌≤◌, true, length, drop}
use Rattle.wire.specs.Bytes.{Bytes}
use Rattle.wire.specs.Le.{u16_at}
use Rattle.token.specs.Token.{Token, token}
use Rattle.token.specs.Payload.{paragraph_of, after_paragraph}
use Rattle.token.specs.Table.{size_of, token_of, is_whole}
use Rattle.token.specs.declared.Record.{Record}

abbrev pub held : Record → Token
held r = token r.kind r.start r.end r.payload.now

-- the bytes that follow the first record
abbrev pub after_record : Bytes → Bytes
after_record bs = drop (size_of bs) bs

pub record SplitsRecord (bs : Bytes) (r : Record) (rest : Bytes) : Type 0 where
  pub whole : is_whole bs ≡ true
  pub first : held r ≡ token_of bs
  pub later : rest ≡ after_record bs

-- a name stands so, and a paragraph of a comment
pub record SplitsSized (bs part rest : Bytes) : Type 0 where
  pub inside : 2 + u16_at bs 0 ≤ length bs
  pub first : part ≡ paragraph_of bs
  pub long : length part ≡ u16_at bs 0
  pub later : rest ≡ after_paragraph bs
