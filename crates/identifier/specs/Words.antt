-- Document 01, "Names": break before each capital and at each `_` and `-`; empty words vanish.
use Rattle.std.specs.Prelude.{ℕ, true, false, List, [], ◌∷◌}
use Rattle.wire.specs.Bytes.{Bytes}
use Rattle.identifier.specs.Byte.{is_upper, is_break}

-- what stands before the first break, and what stands between the later ones
pub record Pieces : Type 0 where
  pub first : Bytes
  pub later : List Bytes

abbrev pub after_byte : ℕ → Pieces → Pieces
after_byte b p =
    elim (is_break b) [
      | true ↦ record { first = []; later = p.first ∷ p.later }
      | false ↦ elim (is_upper b) [
        | true ↦ record { first = []; later = (b ∷ p.first) ∷ p.later }
        | false ↦ record { first = b ∷ p.first; later = p.later }
      ]
    ]

abbrev pub pieces : Bytes → Pieces
pieces [] = record { first = []; later = [] }
pieces (b ∷ bs) = after_byte b (pieces bs)

abbrev pub unempty : List Bytes → List Bytes
unempty [] = []
unempty ([] ∷ ws) = unempty ws
unempty ((b ∷ w) ∷ ws) = (b ∷ w) ∷ unempty ws

abbrev pub words_of : Bytes → List Bytes
words_of name = unempty ((pieces name).first ∷ (pieces name).later)
