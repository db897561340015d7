-- Document 01, "Tables": the number of each schema kind.
use Rattle.std.specs.Prelude.{◌≡◌, ℕ, ◌<◌, ◌⊎◌, Option, None, Some, Result, MatchResult}
use Rattle.schema.specs.Kind.{s_comment, s_import, s_struct, s_choice, s_field, s_deleted, s_array, s_plain, s_custom}
use Rattle.schema.specs.declared.kind.Kind.{Kind}
use Rattle.schema.specs.declared.kind.Kind.TheVariants.{Comment, Import, Struct, Choice, Field, Deleted, Array, Plain, Custom}
use Rattle.schema.specs.declared.kind.UnknownKind.{UnknownKind}

abbrev pub number_of : Kind → ℕ
number_of Comment = s_comment
number_of Import = s_import
number_of Struct = s_struct
number_of Choice = s_choice
number_of Field = s_field
number_of Deleted = s_deleted
number_of Array = s_array
number_of Plain = s_plain
number_of Custom = s_custom

-- the result is the kind of this number, or an error with a number that no kind has
abbrev pub Decodes : ℕ → Result Kind UnknownKind → Type 0
Decodes number r = MatchResult r (λ kind. number_of kind ≡ number) (λ e. (e.0 ≡ number) × ((number < 101) ⊎ (109 < number)))

-- 0 stands for a table's start and for its end
abbrev pub number_at : Option Kind → ℕ
number_at None = 0
number_at (Some kind) = number_of kind
