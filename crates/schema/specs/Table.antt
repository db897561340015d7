-- Document 01, "Tables": what a schema table is. R9 stands for all other bytes.
use Rattle.std.specs.Prelude.{ℕ, ◌≡◌, zero, suc, ◌+◌, ◌-◌, Bool, true, false, ◌&&◌, ◌||◌, List, [], ◌∷◌, leb, eqb}
use Rattle.wire.specs.Bytes.{Bytes}
use Rattle.wire.specs.Pick.{pick}
use Rattle.identifier.specs.Order.{is_before}
use Rattle.token.specs.Token.{Token}
use Rattle.token.specs.Table.{size_of, token_of, is_whole}
use Rattle.schema.specs.Kind.{s_comment, s_import, s_struct, s_choice, s_field, s_deleted, s_array, s_plain, s_custom}
use Rattle.schema.specs.Payload.{name_of, is_payload}

-- A record holds what a token's does. These are the records of a table's bytes, where `left` bytes of the record before are still to come.
abbrev pub records_after : ℕ → Bytes → List Token
records_after left [] = []
records_after zero (b ∷ bs) = token_of (b ∷ bs) ∷ records_after (size_of (b ∷ bs) - 1) bs
records_after (suc left) (b ∷ bs) = records_after left bs

unfoldable pub records_of : Bytes → List Token
records_of = records_after 0

-- each of them is whole
abbrev pub is_framed_after : ℕ → Bytes → Bool
is_framed_after zero [] = true
is_framed_after (suc left) [] = false
is_framed_after zero (b ∷ bs) = is_whole (b ∷ bs) && is_framed_after (size_of (b ∷ bs) - 1) bs
is_framed_after (suc left) (b ∷ bs) = is_framed_after left bs

unfoldable pub is_framed : Bytes → Bool
is_framed = is_framed_after 0

-- What may stand outside a declaration (0 is the table's end), after an import, at the table's start, in a declaration, and as a type.
abbrev pub is_outside : ℕ → Bool
is_outside k = eqb k 0 || (eqb k s_struct || eqb k s_choice)

abbrev pub is_importing : ℕ → Bool
is_importing k = eqb k s_import || is_outside k

abbrev pub is_opening : ℕ → Bool
is_opening k = eqb k s_comment || is_importing k

abbrev pub is_inside : ℕ → Bool
is_inside k = eqb k s_field || (eqb k s_deleted || is_outside k)

abbrev pub is_type : ℕ → Bool
is_type k = eqb k s_array || (eqb k s_plain || eqb k s_custom)

-- a record of the kind k may stand after one of the kind `last`, which is 0 at the table's start
unfoldable pub may_follow : ℕ → ℕ → Bool
may_follow last k =
    pick (eqb last 0) (is_opening k)
    (pick (eqb last s_comment || eqb last s_import) (is_importing k)
    (pick (eqb last s_field || eqb last s_array) (is_type k) (pick (eqb last s_deleted) (is_outside k) (is_inside k))))

-- how many arrays stand in a row up to a record of this kind, with `row` before it
unfoldable pub row_after : ℕ → ℕ → ℕ
row_after row k = pick (eqb k s_array) (row + 1) 0

-- a record is right after one of the kind `last`, by its kind, its payload and the arrays in a row
unfoldable pub is_right : ℕ → ℕ → ℕ → Bytes → Bool
is_right last row k p = may_follow last k && (is_payload k p && leb (row_after row k) 64)

-- imports ascend by snake case: the kinds and the payloads of two records in a row
unfoldable pub is_later : ℕ → Bytes → ℕ → Bytes → Bool
is_later last p k q = pick (eqb k s_import && eqb last s_import) (is_before (name_of p) (name_of q)) true

-- a record is right after another
unfoldable pub is_next : Token → ℕ → Token → Bool
is_next last row r = is_right last.kind row r.kind r.payload && is_later last.kind last.payload r.kind r.payload

-- all of these are, and the last may end the table
abbrev pub are_next : Token → ℕ → List Token → Bool
are_next last row [] = may_follow last.kind 0
are_next last row (r ∷ rs) = is_next last row r && are_next r (row_after row r.kind) rs

-- a record by its kind and its payload, which are all that the next one is judged by
abbrev pub seen : ℕ → Bytes → Token
seen kind payload = record { kind = kind; start = 0; end = 0; payload = payload }

-- r is right after `last` and `row` arrays, and leaves these
pub record Adds (last : Token) (row : ℕ) (r : Token) (kind : ℕ) (payload : Bytes) (row' : ℕ) : Type 0 where
  pub right : is_next last row r ≡ true
  pub is : kind ≡ r.kind
  pub holds : payload ≡ r.payload
  pub arrays : row' ≡ row_after row r.kind

-- what stands before the first record
abbrev pub outset : Token
outset = record { kind = 0; start = 0; end = 0; payload = [] }

unfoldable pub is_schema_table : Bytes → Bool
is_schema_table t = is_framed t && are_next outset 0 (records_of t)
