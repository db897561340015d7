-- Document 01, "Names": a namespace is lent as 0 to 64 names, each after its u16 length; its text is the snake forms joined by `.`.
use Rattle.std.specs.Prelude.{Bool, true, false, ◌&&◌, List, [], ◌∷◌, ◌++◌, ℕ, zero, suc, ◌+◌, ◌-◌, leb, length, take, drop}
use Rattle.wire.specs.Bytes.{Bytes}
use Rattle.wire.specs.Le.{u16_at}
use Rattle.identifier.specs.Name.{is_name}
use Rattle.identifier.specs.Forms.{snake_of}
use Rattle.identifier.specs.Order.{same_name}

-- the name that these bytes begin with, what follows it, and whether it is whole and good
unfoldable pub first_name : Bytes → Bytes
first_name bs = take (u16_at bs 0) (drop 2 bs)

unfoldable pub after_name : Bytes → Bytes
after_name bs = drop (2 + u16_at bs 0) bs

unfoldable pub starts_name : Bytes → Bool
starts_name bs = leb 2 (length bs) && (leb (2 + u16_at bs 0) (length bs) && is_name (first_name bs))

-- the bytes are names, at most n
abbrev pub are_names : ℕ → Bytes → Bool
are_names zero [] = true
are_names zero (b ∷ bs) = false
are_names (suc n) [] = true
are_names (suc n) (b ∷ bs) = elim (starts_name (b ∷ bs)) [ true ↦ are_names n (after_name (b ∷ bs)) | false ↦ false ]

unfoldable pub is_namespace : Bytes → Bool
is_namespace = are_names 64

-- the names, and the bytes of those that follow the first k
abbrev pub names_in : ℕ → Bytes → List Bytes
names_in zero bs = []
names_in (suc n) [] = []
names_in (suc n) (b ∷ bs) = first_name (b ∷ bs) ∷ names_in n (after_name (b ∷ bs))

unfoldable pub names_of : Bytes → List Bytes
names_of = names_in 64

abbrev pub after_names : ℕ → Bytes → Bytes
after_names zero bs = bs
after_names (suc k) bs = after_names k (after_name bs)

-- the snake forms, each after a `.`; and joined by `.`
abbrev pub dotted : List Bytes → Bytes
dotted [] = []
dotted (name ∷ names) = 46 ∷ snake_of name ++ dotted names

abbrev pub joined_by_dots : List Bytes → Bytes
joined_by_dots [] = []
joined_by_dots (name ∷ names) = snake_of name ++ dotted names

unfoldable pub text_of : Bytes → Bytes
text_of ns = joined_by_dots (names_of ns)

-- how many names the longest common start has
abbrev pub common : List Bytes → List Bytes → ℕ
common [] ys = 0
common (x ∷ xs) [] = 0
common (x ∷ xs) (y ∷ ys) = elim (same_name x y) [ true ↦ suc (common xs ys) | false ↦ 0 ]

unfoldable pub common_of : Bytes → Bytes → ℕ
common_of a b = common (names_of a) (names_of b)

-- Relativizing a against b: a's names after the common start, laid out as lent, and how many names of b follow that start.
unfoldable pub relative_of : Bytes → Bytes → Bytes
relative_of a b = after_names (common_of a b) a

unfoldable pub steps_up : Bytes → Bytes → ℕ
steps_up a b = length (names_of b) - common_of a b
