-- Document 01, "Names": a name survives printing if the snake case of its Pascal form equals its own.
use Rattle.std.specs.Prelude.{Bool, true, false, List, [], ◌∷◌}
use Rattle.wire.specs.Bytes.{Bytes}
use Rattle.identifier.specs.Byte.{is_letter}
use Rattle.identifier.specs.Name.{all}
use Rattle.identifier.specs.Forms.{pascal_of}
use Rattle.identifier.specs.Order.{same_name}

unfoldable pub survives : Bytes → Bool
survives name = same_name (pascal_of name) name

-- every word after the first begins with a letter
abbrev pub begins : Bytes → Bool
begins [] = false
begins (b ∷ w) = is_letter b

abbrev pub later_begin : List Bytes → Bool
later_begin [] = true
later_begin (w ∷ ws) = all begins ws
