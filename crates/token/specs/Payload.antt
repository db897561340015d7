-- Document 01, "Tables": what a token's payload may hold, by its kind.
use Rattle.std.specs.Prelude.{ℕ, zero, suc, ◌+◌, Bool, true, false, not, ◌&&◌, ◌||◌, List, [], ◌∷◌, ◌++◌, leb, eqb, length, get_or, take, drop}
use Rattle.wire.specs.Bytes.{Bytes}
use Rattle.wire.specs.Le.{le_bytes, u16_at}
use Rattle.wire.specs.Pick.{pick}
use Rattle.identifier.specs.Byte.{within, is_letter, is_digit, is_break, is_printable}
use Rattle.identifier.specs.Name.{all}
use Rattle.token.specs.Kind.{k_identifier, k_path, k_integer, k_comment}

-- at least n bytes
abbrev pub at_least : ℕ → Bytes → Bool
at_least zero bs = true
at_least (suc n) [] = false
at_least (suc n) (b ∷ bs) = at_least n bs

-- Identifier: 1 to 128 of letters, digits, `_`, `-`; the first a letter or `_`.
abbrev pub is_name_start : ℕ → Bool
is_name_start b = is_letter b || eqb b 95

abbrev pub is_name_byte : ℕ → Bool
is_name_byte b = is_letter b || (is_digit b || is_break b)

unfoldable pub is_identifier : Bytes → Bool
is_identifier p = within 1 128 (length p) && (is_name_start (get_or p 0 0) && all is_name_byte p)

-- Path: 0 to 128 printable bytes, no 0x27.
abbrev pub is_path_byte : ℕ → Bool
is_path_byte b = is_printable b && not (eqb b 39)

unfoldable pub is_path : Bytes → Bool
is_path p = leb (length p) 128 && all is_path_byte p

-- Integer: 8 bytes.
unfoldable pub is_integer : Bytes → Bool
is_integer p = eqb (length p) 8

-- Comment: 1 to 32 paragraphs, each a u16 length and 1 to 1,024 printable bytes, no space first or last, no two spaces together.
-- Here: no space last, none after a space and, where `gap`, none first.
abbrev pub is_spaced : Bool → Bytes → Bool
is_spaced gap [] = not gap
is_spaced gap (b ∷ bs) = is_printable b && (not (gap && eqb b 32) && is_spaced (eqb b 32) bs)

unfoldable pub is_paragraph : Bytes → Bool
is_paragraph p = within 1 1024 (length p) && is_spaced true p

-- the first paragraph of these bytes, after its u16 length, and what follows it
unfoldable pub paragraph_of : Bytes → Bytes
paragraph_of bs = take (u16_at bs 0) (drop 2 bs)

unfoldable pub after_paragraph : Bytes → Bytes
after_paragraph bs = drop (u16_at bs 0) (drop 2 bs)

-- the bytes are whole paragraphs, at most n
unfoldable pub are_paragraphs : ℕ → Bytes → Bool
are_paragraphs zero [] = true
are_paragraphs zero (b ∷ bs) = false
are_paragraphs (suc n) [] = true
are_paragraphs (suc n) (b ∷ bs) =
    at_least 2 (b ∷ bs)
    && (at_least (2 + u16_at (b ∷ bs) 0) (b ∷ bs) && (is_paragraph (paragraph_of (b ∷ bs)) && are_paragraphs n (after_paragraph (b ∷ bs))))

unfoldable pub is_comment : Bytes → Bool
is_comment p = leb 1 (length p) && are_paragraphs 32 p

-- All others: empty.
unfoldable pub is_payload : ℕ → Bytes → Bool
is_payload kind p =
    pick (eqb kind k_identifier) (is_identifier p)
    (pick (eqb kind k_path) (is_path p)
    (pick (eqb kind k_integer) (is_integer p)
    (pick (eqb kind k_comment) (is_comment p)
    (eqb (length p) 0))))

-- the first n paragraphs of these bytes
abbrev pub paragraphs_in : ℕ → Bytes → List Bytes
paragraphs_in zero bs = []
paragraphs_in (suc n) [] = []
paragraphs_in (suc n) (b ∷ bs) = paragraph_of (b ∷ bs) ∷ paragraphs_in n (after_paragraph (b ∷ bs))

-- the paragraphs of a Comment's payload
unfoldable pub paragraphs_of : Bytes → List Bytes
paragraphs_of = paragraphs_in 32

-- paragraphs as a payload holds them
unfoldable pub paragraph_bytes : List Bytes → Bytes
paragraph_bytes [] = []
paragraph_bytes (p ∷ ps) = le_bytes 2 (length p) ++ p ++ paragraph_bytes ps

abbrev pub all_paragraphs : List Bytes → Bool
all_paragraphs [] = true
all_paragraphs (p ∷ ps) = is_paragraph p && all_paragraphs ps
