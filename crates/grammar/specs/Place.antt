-- Document 01, "Ranges": a construct runs from its first token's start to its last one's end.
use Rattle.std.specs.Prelude.{ℕ, List, [], ◌∷◌}
use Rattle.std.proofs.Math.Option.{Option, none, some}
use Rattle.token.specs.Token.{Token}
use Rattle.schema.specs.Ast.{Range}

abbrev pub span : Token → Token → Range
span first last = record { start = first.start; end = last.end }

abbrev pub empty_at : ℕ → Range
empty_at place = record { start = place; end = place }

-- the optional token, else the one after it
abbrev pub first_of : Option Token → Token → Token
first_of none next = next
first_of (some t) next = t

-- the first of these tokens; at the list's end the empty range at `end`, where the last token ended
abbrev pub range_at : ℕ → List Token → Range
range_at end [] = empty_at end
range_at end (t ∷ ts) = span t t
