-- The places of a tree's tokens follow from where it begins and what it has: one token stands after the other.
use Rattle.std.specs.Prelude.{ℕ, ◌+◌, ◌*◌, Bool, true, false, Option, None, Some}
use Rattle.wire.specs.Bytes.{Bytes}
use Rattle.token.specs.Places.{next_at}
use Rattle.parser.specs.declared.TypePlaces.{TypePlaces}
use Rattle.parser.specs.declared.PartPlaces.{PartPlaces}
use Rattle.parser.specs.declared.FieldPlaces.{FieldPlaces}
use Rattle.parser.specs.declared.HeadPlaces.{HeadPlaces}
use Rattle.parser.specs.declared.ImportPlaces.{ImportPlaces}

-- the place of a token, where it stands there
abbrev pub place_if : Bool → ℕ → Option ℕ
place_if true at = Some at
place_if false at = None

-- past a token, where it stands there
abbrev pub skip_at : Bytes → Bool → ℕ → ℕ
skip_at t true at = next_at t at
skip_at t false at = at

-- past a base
abbrev pub base_end : Bytes → Bool → ℕ → ℕ
base_end t true at = next_at t (next_at t (next_at t at))
base_end t false at = next_at t at

abbrev pub type_laid : Bytes → ℕ → ℕ → Bool → TypePlaces
type_laid t at depth dotted =
    record { opens = at; depth = depth; base = at + 12 * depth; dotted = dotted; close = base_end t dotted (at + 12 * depth) }

abbrev pub type_end : TypePlaces → ℕ
type_end p = p.close + 12 * p.depth

abbrev pub part_laid : Bytes → ℕ → Option PartPlaces → Option PartPlaces
part_laid t at None = None
part_laid t at (Some p) = Some (record { colon = at; ty = type_laid t (next_at t at) p.ty.depth p.ty.dotted })

abbrev pub part_end : ℕ → Option PartPlaces → ℕ
part_end at None = at
part_end at (Some p) = type_end p.ty

abbrev pub field_laid : Bytes → ℕ → Bool → Bool → Option PartPlaces → FieldPlaces
field_laid t at commented ruled part =
    let name = skip_at t ruled (skip_at t commented at) in
    let equals = part_end (next_at t name) part in
    record {
      first = at;
      comment = place_if commented at;
      rule = place_if ruled (skip_at t commented at);
      name = name;
      part = part;
      equals = equals;
      index = next_at t equals;
    }

abbrev pub head_laid : Bytes → ℕ → Bool → HeadPlaces
head_laid t at commented =
    record { first = at; comment = place_if commented at; keyword = skip_at t commented at; name = next_at t (skip_at t commented at) }

-- the name after `as`, where there is one, and else the path
abbrev pub last_at : Bytes → Bool → ℕ → ℕ
last_at t true path = next_at t (next_at t path)
last_at t false path = path

abbrev pub import_laid : Bytes → ℕ → Bool → ImportPlaces
import_laid t at aliased = record { first = at; path = next_at t at; alias = place_if aliased (last_at t aliased (next_at t at)) }
