-- The derivation trees whose tokens stand at the places that the rules hand on.
use Rattle.std.specs.Prelude.{ℕ, zero, suc, ◌+◌, ◌*◌, Bool, true, false, eqb, is_some, None, Some}
use Rattle.std.specs.Prelude.{Option as Places}
use Rattle.std.specs.Option.{unwrap_or}
use Rattle.std.proofs.Math.Option.{Option, none, some}
use Rattle.wire.specs.Bytes.{Bytes}
use Rattle.wire.specs.Pick.{pick}
use Rattle.token.specs.Token.{Token}
use Rattle.token.specs.Kind.{k_identifier}
use Rattle.token.specs.Places.{tok_at, next_at}
use Rattle.grammar.specs.Tree.{TypeTree, array, plain, single, dotted, TypePart, FieldTree, HeadTree, AliasPart, ImportTree}
use Rattle.parser.specs.declared.TypePlaces.{TypePlaces}
use Rattle.parser.specs.declared.PartPlaces.{PartPlaces}
use Rattle.parser.specs.declared.FieldPlaces.{FieldPlaces}
use Rattle.parser.specs.declared.HeadPlaces.{HeadPlaces}
use Rattle.parser.specs.declared.ImportPlaces.{ImportPlaces}

abbrev pub when : {A : Type 0} → Bool → A → Option A
when true x = some x
when false x = none

-- the token at this place, where there is one
abbrev pub token_there : Bytes → Places ℕ → Option Token
token_there t None = none
token_there t (Some at) = some (tok_at t at)

abbrev pub base_at : Bytes → ℕ → Bool → TypeTree
base_at t at true = dotted (tok_at t at) (tok_at t (next_at t at)) (tok_at t (next_at t (next_at t at)))
base_at t at false = pick (eqb (tok_at t at).kind k_identifier) (single (tok_at t at)) (plain (tok_at t at))

-- so many brackets around it: the records of `]` are 12 bytes long, and the outermost is the last
abbrev pub array_at : Bytes → ℕ → TypeTree → ℕ → ℕ → TypeTree
array_at t close base zero opens = base
array_at t close base (suc d) opens = array (tok_at t opens) (array_at t close base d (next_at t opens)) (tok_at t (close + 12 * d))

abbrev pub type_at : Bytes → TypePlaces → TypeTree
type_at t p = array_at t p.close (base_at t p.base p.dotted) p.depth p.opens

abbrev pub part_at : Bytes → Places PartPlaces → Option TypePart
part_at t None = none
part_at t (Some p) = some (record { colon = tok_at t p.colon; type = type_at t p.ty })

abbrev pub field_at : Bytes → FieldPlaces → FieldTree
field_at t f =
    record {
      comment = token_there t f.comment;
      rule = token_there t f.rule;
      name = tok_at t f.name;
      type = part_at t f.part;
      equals = tok_at t f.equals;
      index = tok_at t f.index;
    }

abbrev pub head_at : Bytes → HeadPlaces → HeadTree
head_at t h =
    record {
      comment = token_there t h.comment;
      keyword = tok_at t h.keyword;
      name = tok_at t h.name;
      left = tok_at t (next_at t h.name);
    }

abbrev pub last_place : ImportPlaces → ℕ
last_place i = unwrap_or i.alias i.path

abbrev pub alias_at : Bytes → ImportPlaces → AliasPart
alias_at t i = record { keyword = tok_at t (next_at t i.path); name = tok_at t (last_place i) }

abbrev pub import_at : Bytes → ImportPlaces → ImportTree
import_at t i = record { keyword = tok_at t i.first; path = tok_at t i.path; alias = when (is_some i.alias) (alias_at t i) }
