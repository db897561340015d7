-- "Texts below stand for their tokens, at these byte places": the tokens of a quoted text, for examples and for the table of cases. It judges
-- nothing: a byte that begins no token is skipped like a space, and each line after `# ` is a Comment of one paragraph.
use Rattle.std.specs.Prelude.{ℕ, zero, suc, ◌+◌, ◌*◌, ◌-◌, Bool, true, false, ◌||◌, List, [], ◌∷◌, ◌++◌, eqb}
use Prim.Native.String.{String}
use Rattle.wire.specs.Bytes.{Bytes, bytes}
use Rattle.wire.specs.Le.{le_bytes}
use Rattle.identifier.specs.Byte.{is_letter, is_digit, is_break}
use Rattle.token.specs.Kind.{k_as, k_asymmetric, k_bool, k_bytes, k_choice, k_colon, k_comment, k_deleted, k_dot, k_equals, k_f64, k_identifier, k_import}
use Rattle.token.specs.Kind.{k_integer, k_left_curly, k_left_square, k_optional, k_path, k_right_curly, k_right_square, k_s64, k_string, k_struct, k_u64, k_unit}
use Rattle.token.specs.Token.{Token}
use Rattle.token.specs.Payload.{paragraph_bytes}

abbrev pub same_bytes : Bytes → Bytes → Bool
same_bytes [] [] = true
same_bytes [] (y ∷ ys) = false
same_bytes (x ∷ xs) [] = false
same_bytes (x ∷ xs) (y ∷ ys) = elim (eqb x y) [ true ↦ same_bytes xs ys | false ↦ false ]

pub record Entry : Type 0 where
  pub text : Bytes
  pub kind : ℕ

abbrev pub entry : String → ℕ → Entry
entry text kind = record { text = bytes text; kind = kind }

abbrev pub keywords : List Entry
keywords =
    entry "as" k_as
    ∷ entry "asymmetric" k_asymmetric
    ∷ entry "Bool" k_bool
    ∷ entry "Bytes" k_bytes
    ∷ entry "choice" k_choice
    ∷ entry "deleted" k_deleted
    ∷ entry "F64" k_f64
    ∷ entry "import" k_import
    ∷ entry "optional" k_optional
    ∷ entry "S64" k_s64
    ∷ entry "String" k_string
    ∷ entry "struct" k_struct
    ∷ entry "U64" k_u64
    ∷ entry "Unit" k_unit
    ∷ []

abbrev pub signs : List Entry
signs =
    entry ":" k_colon
    ∷ entry "." k_dot
    ∷ entry "=" k_equals
    ∷ entry "{" k_left_curly
    ∷ entry "[" k_left_square
    ∷ entry "}" k_right_curly
    ∷ entry "]" k_right_square
    ∷ []

-- the kind of a text in such a list; 0 where it isn't there
abbrev pub kind_in : List Entry → Bytes → ℕ
kind_in [] text = 0
kind_in (e ∷ es) text = elim (same_bytes e.text text) [ true ↦ e.kind | false ↦ kind_in es text ]

abbrev pub decimal_of : ℕ → Bytes → ℕ
decimal_of n [] = n
decimal_of n (d ∷ ds) = decimal_of (n * 10 + (d - 48)) ds

abbrev pub token : ℕ → ℕ → ℕ → Bytes → Token
token kind start end payload = record { kind = kind; start = start; end = end; payload = payload }

-- a keyword, an identifier or an integer
abbrev pub word_token : ℕ → ℕ → Bytes → Token
word_token start end [] = token k_identifier start end []
word_token start end (b ∷ bs) =
    elim (is_digit b) [
      | true ↦ token k_integer start end (le_bytes 8 (decimal_of 0 (b ∷ bs)))
      | false ↦ elim (kind_in keywords (b ∷ bs)) [ zero ↦ token k_identifier start end (b ∷ bs) | suc k ↦ token (suc k) start end [] ]
    ]

-- what was begun, where, and the bytes of it so far: nothing, a word, a path after its `'`, a paragraph after its `# `
pub data Begun : Type 0 where
  none : Begun
  word path remark : ℕ → Bytes → Begun

-- the token that ends here
abbrev pub ended : ℕ → Begun → List Token
ended at none = []
ended at (word start bs) = word_token start at bs ∷ []
ended at (path start bs) = token k_path start at bs ∷ []
ended at (remark start []) = []
ended at (remark start (b ∷ bs)) = token k_comment start at (paragraph_bytes (bs ∷ [])) ∷ []

abbrev pub sign_token : ℕ → ℕ → List Token
sign_token at b = elim (kind_in signs (b ∷ [])) [ zero ↦ [] | suc k ↦ token (suc k) at (at + 1) [] ∷ [] ]

-- what a byte begins where nothing is begun: 39 is `'`, 35 is `#`
abbrev pub begins : ℕ → ℕ → Begun
begins at b =
    elim (is_letter b || (is_digit b || is_break b)) [
      | true ↦ word at (b ∷ [])
      | false ↦ elim (eqb b 39) [ true ↦ path at [] | false ↦ elim (eqb b 35) [ true ↦ remark at [] | false ↦ none ] ]
    ]

abbrev pub tokens_in : ℕ → Begun → Bytes → List Token
tokens_in at begun [] = ended at begun
tokens_in at none (b ∷ bs) = sign_token at b ++ tokens_in (at + 1) (begins at b) bs
tokens_in at (word start w) (b ∷ bs) =
    elim (is_letter b || (is_digit b || is_break b)) [
      | true ↦ tokens_in (at + 1) (word start (w ++ (b ∷ []))) bs
      | false ↦ ended at (word start w) ++ (sign_token at b ++ tokens_in (at + 1) (begins at b) bs)
    ]
tokens_in at (path start w) (b ∷ bs) =
    elim (eqb b 39) [
      | true ↦ ended (at + 1) (path start w) ++ tokens_in (at + 1) none bs
      | false ↦ tokens_in (at + 1) (path start (w ++ (b ∷ []))) bs
    ]
tokens_in at (remark start w) (b ∷ bs) =
    elim (eqb b 10) [
      | true ↦ ended at (remark start w) ++ tokens_in (at + 1) none bs
      | false ↦ tokens_in (at + 1) (remark start (w ++ (b ∷ []))) bs
    ]

abbrev pub tokens_of : String → List Token
tokens_of text = tokens_in 0 none (bytes text)
