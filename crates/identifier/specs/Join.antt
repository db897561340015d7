-- Document 01, "Names": join puts the two originals around `_`.
use Rattle.std.specs.Prelude.{◌∷◌, ◌++◌}
use Rattle.wire.specs.Bytes.{Bytes}

unfoldable pub join_of : Bytes → Bytes → Bytes
join_of a b = a ++ 95 ∷ b
