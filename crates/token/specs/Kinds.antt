-- Document 01, "Tables": the number of each token kind.
use Rattle.std.specs.Prelude.{◌≡◌, ℕ, ◌<◌, ◌⊎◌, Result, MatchResult}
use Rattle.token.specs.declared.kind.Kind.{Kind}
use Rattle.token.specs.declared.kind.Kind.TheVariants.{As, Asymmetric, Bool, Bytes, Choice, Colon, Comment, Deleted, Dot, Equals, F64, Identifier, Import}
use Rattle.token.specs.declared.kind.Kind.TheVariants.{Integer, LeftCurly, LeftSquare, Optional, Path, RightCurly, RightSquare, S64, String, Struct, U64, Unit}
use Rattle.token.specs.declared.kind.UnknownKind.{UnknownKind}

abbrev pub number_of : Kind → ℕ
number_of As = 1
number_of Asymmetric = 2
number_of Bool = 3
number_of Bytes = 4
number_of Choice = 5
number_of Colon = 6
number_of Comment = 7
number_of Deleted = 8
number_of Dot = 9
number_of Equals = 10
number_of F64 = 11
number_of Identifier = 12
number_of Import = 13
number_of Integer = 14
number_of LeftCurly = 15
number_of LeftSquare = 16
number_of Optional = 17
number_of Path = 18
number_of RightCurly = 19
number_of RightSquare = 20
number_of S64 = 21
number_of String = 22
number_of Struct = 23
number_of U64 = 24
number_of Unit = 25

-- the result is the kind of this number, or an error with a number that no kind has
abbrev pub Decodes : ℕ → Result Kind UnknownKind → Type 0
Decodes number r = MatchResult r (λ kind. number_of kind ≡ number) (λ e. (e.0 ≡ number) × ((number ≡ 0) ⊎ (25 < number)))
