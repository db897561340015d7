-- What the definition answers on small tables, computed: each number of document 01 on both sides of its boundary, and their order in a record.
-- A table that is too large is `checked-large` in Records.
use Prim.Native.Nat.{ℕ}
use mathlib.Core.Path.{◌≡◌, refl}
use mathlib.Core.List.{List, [], ◌∷◌, ◌++◌, map}
use lib.ListN.{take, replicate}
use Rattle.wire.specs.Bytes.{Bytes, bytes}
use Rattle.wire.specs.Le.{le_bytes, le_number, le_at}
use Rattle.wire.specs.Pick.{pick}
use Rattle.wire.specs.Record.{head_bytes, record_bytes}
use Rattle.token.specs.Kind.{k_as, k_comment, k_identifier, k_integer, k_left_square, k_path, k_unit}
use Rattle.token.specs.Payload.{is_identifier, is_path, is_integer, is_paragraph, paragraph_of, after_paragraph}
use Rattle.token.specs.Payload.{are_paragraphs, is_comment, is_payload, paragraphs_of, paragraph_bytes}
use Rattle.token.specs.Table.{token_of, is_whole, token_fault, row_after, fault_of, Decoded, refused, tokens, decode_from, decode}

-- a refusal's number and offset; nothing where the table is good
abbrev faults : Decoded → List ℕ
faults (refused number at) = number ∷ at ∷ []
faults (tokens ts) = []

-- a table, and what it is refused with
record Case : Type 0 where
  table : Bytes
  refusal : List ℕ

abbrev good : Bytes → Case
good t = record { table = t; refusal = [] }

abbrev bad : ℕ → ℕ → Bytes → Case
bad number at t = record { table = t; refusal = number ∷ at ∷ [] }

-- a record of this kind from 3 to 4
abbrev holding : ℕ → Bytes → Bytes
holding kind payload = record_bytes kind 3 4 payload

abbrev empty : ℕ → Bytes
empty kind = holding kind []

abbrev ranged : ℕ → ℕ → Bytes
ranged start end = record_bytes k_as start end []

-- n times the same
abbrev times : ℕ → Bytes → Bytes
times n bs = join (replicate n bs)
  where
    join : List Bytes → Bytes
    join [] = []
    join (b ∷ bs) = b ++ join bs

abbrev squares : ℕ → Bytes
squares n = times n (record_bytes k_left_square 0 0 [])

abbrev letters : ℕ → Bytes
letters n = replicate n 97

abbrev paragraphs : List Bytes → Bytes
paragraphs ps = holding k_comment (paragraph_bytes ps)

abbrev cases : List Case
cases =
    good []
    -- R2
    ∷ bad 2 0 (take 11 (empty k_as))
    ∷ bad 2 12 (empty k_as ++ 12 ∷ [])
    ∷ bad 2 0 (head_bytes 11 k_as 3 4)
    ∷ bad 2 0 (head_bytes 13 k_as 3 4)
    -- R3
    ∷ bad 3 0 (empty 0)
    ∷ good (empty k_unit)
    ∷ bad 3 0 (empty 26)
    ∷ bad 3 0 (holding 26 (97 ∷ []))
    -- R4
    ∷ bad 4 0 (holding k_as (97 ∷ []))
    ∷ bad 4 0 (empty k_identifier)
    ∷ good (holding k_identifier (letters 128))
    ∷ bad 4 0 (holding k_identifier (letters 129))
    ∷ good (holding k_identifier (bytes "_-9Z"))
    ∷ bad 4 0 (holding k_identifier (bytes "-a"))
    ∷ bad 4 0 (holding k_identifier (bytes "9a"))
    ∷ bad 4 0 (holding k_identifier (bytes "a.b"))
    ∷ good (empty k_path)
    ∷ good (holding k_path (32 ∷ 126 ∷ letters 126))
    ∷ bad 4 0 (holding k_path (letters 129))
    ∷ bad 4 0 (holding k_path (39 ∷ []))
    ∷ bad 4 0 (holding k_path (31 ∷ []))
    ∷ bad 4 0 (holding k_path (127 ∷ []))
    ∷ good (holding k_integer (replicate 8 255))
    ∷ bad 4 0 (holding k_integer (replicate 7 0))
    ∷ bad 4 0 (holding k_integer (replicate 9 0))
    ∷ bad 4 0 (empty k_comment)
    ∷ good (paragraphs (replicate 32 (letters 1)))
    ∷ bad 4 0 (paragraphs (replicate 33 (letters 1)))
    ∷ good (paragraphs (letters 1024 ∷ []))
    ∷ bad 4 0 (paragraphs (letters 1025 ∷ []))
    ∷ bad 4 0 (paragraphs ([] ∷ []))
    ∷ good (paragraphs (bytes "a b ~" ∷ bytes "c" ∷ []))
    ∷ bad 4 0 (paragraphs (bytes " a" ∷ []))
    ∷ bad 4 0 (paragraphs (bytes "a " ∷ []))
    ∷ bad 4 0 (paragraphs (bytes "a  b" ∷ []))
    ∷ bad 4 0 (paragraphs ((127 ∷ []) ∷ []))
    ∷ bad 4 0 (holding k_comment (1 ∷ []))
    ∷ bad 4 0 (holding k_comment (2 ∷ 0 ∷ 97 ∷ []))
    ∷ bad 4 0 (holding k_comment (1 ∷ 0 ∷ 97 ∷ 0 ∷ []))
    ∷ bad 4 0 (record_bytes k_path 4 3 (39 ∷ []))
    -- R5
    ∷ good (ranged 5 7 ++ ranged 7 7 ++ ranged 7 4294967295 ++ ranged 4294967295 4294967295)
    ∷ bad 5 12 (ranged 5 7 ++ ranged 6 8)
    ∷ bad 5 0 (ranged 5 4)
    ∷ bad 5 780 (squares 64 ++ ranged 0 1 ++ squares 65)
    -- R7
    ∷ good (squares 64)
    ∷ bad 7 768 (squares 65)
    ∷ good (squares 64 ++ ranged 0 0 ++ squares 64)
    ∷ bad 7 1548 (squares 64 ++ ranged 0 0 ++ squares 65)
    ∷ []

all : map (λ c. faults (decode c.table)) cases ≡ map (λ c. c.refusal) cases
unfolding decode decode_from fault_of token_fault row_after is_whole token_of is_payload is_identifier is_path is_integer is_comment are_paragraphs is_paragraph paragraph_of
    after_paragraph paragraph_bytes le_at le_number le_bytes head_bytes record_bytes pick
all = refl

-- R6, were 2 tokens the most
full : map (λ t. faults (decode_from 2 0 0 0 t)) (times 2 (ranged 0 0) ∷ (times 2 (ranged 0 0) ++ 0 ∷ []) ∷ []) ≡ [] ∷ (6 ∷ 24 ∷ []) ∷ []
unfolding decode_from fault_of token_fault row_after is_whole token_of is_payload le_at le_number le_bytes head_bytes record_bytes pick
full = refl

twice : paragraphs_of (paragraph_bytes (bytes "a b" ∷ bytes "c" ∷ [])) ≡ bytes "a b" ∷ bytes "c" ∷ []
unfolding paragraphs_of paragraph_of after_paragraph paragraph_bytes le_at le_number le_bytes
twice = refl
