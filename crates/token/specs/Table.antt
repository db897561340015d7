-- Document 01, "Tables" and "Numbers that stop a call": what a token table decodes to. R1 first, then record by record R6, R2, R3, R4, R5, R7:
-- the first faulty record decides, and its offset is told.
use Rattle.std.specs.Prelude.{ℕ, zero, suc, ◌+◌, ◌-◌, Bool, not, ◌&&◌, List, [], ◌∷◌, ◌++◌, eqb, leb, ltb, length, take, drop}
use Rattle.wire.specs.Bytes.{Bytes}
use Rattle.wire.specs.Le.{u16_at, u32_at}
use Rattle.wire.specs.Pick.{pick}
use Rattle.wire.specs.Record.{record_bytes}
use Rattle.identifier.specs.Byte.{within}
use Rattle.token.specs.Kind.{k_left_square}
use Rattle.token.specs.Token.{Token, token}
use Rattle.token.specs.Payload.{at_least, is_payload}

-- the length of the record that these bytes begin with
abbrev pub size_of : Bytes → ℕ
size_of bs = u16_at bs 0

-- and what it holds
unfoldable pub token_of : Bytes → Token
token_of bs = token (u16_at bs 2) (u32_at bs 4) (u32_at bs 8) (take (size_of bs - 12) (drop 12 bs))

-- R2 unless there are at least 12 bytes, the length is at least 12, and there are as many bytes as it says
unfoldable pub is_whole : Bytes → Bool
is_whole bs = at_least 12 bs && (leb 12 (size_of bs) && at_least (size_of bs) bs)

-- how many LeftSquares stand in a row up to a token of this kind, with `row` before it
unfoldable pub row_after : ℕ → ℕ → ℕ
row_after row kind = pick (eqb kind k_left_square) (row + 1) 0

-- the number that a token is refused with, after one that ends at `last` and `row` LeftSquares; 0 for none
unfoldable pub token_fault : ℕ → ℕ → Token → ℕ
token_fault last row t =
    pick (not (within 1 25 t.kind)) 3
    (pick (not (is_payload t.kind t.payload)) 4
    (pick (not (leb last t.start && leb t.start t.end)) 5
    (pick (ltb 64 (row_after row t.kind)) 7
    0)))

-- and the record that these bytes begin with
unfoldable pub fault_of : ℕ → ℕ → Bytes → ℕ
fault_of last row bs = pick (not (is_whole bs)) 2 (token_fault last row (token_of bs))

-- a number with the offset of the faulty record, or the tokens
pub data Decoded : Type 0 where
  refused : ℕ → ℕ → Decoded
  tokens : List Token → Decoded

abbrev pub add_token : Token → Decoded → Decoded
add_token t (refused number at) = refused number at
add_token t (tokens ts) = tokens (t ∷ ts)

-- the bytes from the offset `at` on, where at most n more tokens may stand
unfoldable pub decode_from : ℕ → ℕ → ℕ → ℕ → Bytes → Decoded
decode_from zero at last row [] = tokens []
decode_from zero at last row (b ∷ bs) = refused 6 at
decode_from (suc n) at last row [] = tokens []
decode_from (suc n) at last row (b ∷ bs) =
    elim (fault_of last row (b ∷ bs)) [
      | suc f ↦ refused (suc f) at
      | zero ↦
          add_token (token_of (b ∷ bs))
          (decode_from n (at + size_of (b ∷ bs)) (token_of (b ∷ bs)).end (row_after row (token_of (b ∷ bs)).kind) (drop (size_of (b ∷ bs)) (b ∷ bs)))
    ]

unfoldable pub decode : Bytes → Decoded
decode t = pick (ltb 65536 (length t)) (refused 1 0) (decode_from 4096 0 0 0 t)

-- tokens as a table holds them
unfoldable pub encode_tokens : List Token → Bytes
encode_tokens [] = []
encode_tokens (t ∷ ts) = record_bytes t.kind t.start t.end t.payload ++ encode_tokens ts
