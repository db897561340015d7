-- Document 01, "Names" and the payload rules: what a byte is, its class, and its lower and upper form.
-- ASCII's letters move by 32; every other byte, above 0x7E too, is its own lower and upper form.
use Rattle.std.specs.Prelude.{ℕ, ◌+◌, ◌-◌, Bool, ◌||◌, ◌&&◌, not, leb, eqb}
use Rattle.wire.specs.Pick.{pick}

abbrev pub within : ℕ → ℕ → ℕ → Bool
within lo hi b = leb lo b && leb b hi

abbrev pub is_upper : ℕ → Bool
is_upper b = within 65 90 b

abbrev pub is_lower : ℕ → Bool
is_lower b = within 97 122 b

abbrev pub is_letter : ℕ → Bool
is_letter b = is_upper b || is_lower b

abbrev pub is_digit : ℕ → Bool
is_digit b = within 48 57 b

-- what stands in a snake form as it is
abbrev pub is_plain : ℕ → Bool
is_plain b = is_lower b || is_digit b

-- `_` and `-`, at which a name breaks
abbrev pub is_break : ℕ → Bool
is_break b = eqb b 95 || eqb b 45

-- printable ASCII: 0x20 to 0x7E
abbrev pub is_printable : ℕ → Bool
is_printable b = within 32 126 b

unfoldable pub lower_of : ℕ → ℕ
lower_of b = pick (is_upper b) (b + 32) b

unfoldable pub upper_of : ℕ → ℕ
upper_of b = pick (is_lower b) (b - 32) b

-- The classes rise so that each payload rule is one comparison: 0 not printable, 1 the quote that ends a path, 2 space, 3 any other printable
-- byte, 4 `-`, 5 a digit, 6 `_`, 7 a small letter, 8 a capital.
unfoldable pub class_of : ℕ → ℕ
class_of b =
    pick (is_upper b) 8
    (pick (is_lower b) 7
    (pick (eqb b 95) 6 (pick (is_digit b) 5 (pick (eqb b 45) 4 (pick (not (is_printable b)) 0 (pick (eqb b 32) 2 (pick (eqb b 39) 1 3)))))))
