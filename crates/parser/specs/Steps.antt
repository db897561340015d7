-- What a rule's answer says: the rule of the grammar, on the tokens ahead of the cursor, read the tree at the answer's places up to the next
-- cursor, or failed with the number of the answer's fault there.
use Rattle.std.specs.Prelude.{ℕ, zero, suc, ◌+◌, ◌*◌, ◌≤◌, ◌<◌, ◌≡◌, Bool, true, false}
use Rattle.std.specs.Prelude.{List, ◌∷◌, length, Option, None, Some, Result, is_some, IfSome, MatchResult}
use Rattle.wire.specs.Bytes.{Bytes}
use Rattle.token.specs.Token.{Token}
use Rattle.token.specs.Kind.{k_colon}
use Rattle.token.specs.Kinds as kinds
use Rattle.token.specs.Places.{tok_at, next_at, tokens_from, Wf}
use Rattle.token.specs.declared.kind.Kind.{Kind}
use Rattle.grammar.specs.Tree.{TypeTree}
use Rattle.grammar.specs.Place.{first_of}
use Rattle.grammar.specs.Meaning.{last_of}
use Rattle.grammar.specs.Reading.{Result as Answer, ok, fail, is, optional, parse_type_part, parse_field, parse_head, parse_import}
use Rattle.parser.specs.Faults.{number_of}
use Rattle.parser.specs.Trees.{token_there, type_at, part_at, field_at, head_at, last_place, import_at}
use Rattle.parser.specs.Laid.{place_if, skip_at, type_laid, type_end, part_laid, part_end, field_laid, head_laid, import_laid}
use Rattle.parser.specs.declared.Cursor.{Cursor}
use Rattle.parser.specs.declared.Failure.{Failure}
use Rattle.parser.specs.declared.TypePlaces.{TypePlaces}
use Rattle.parser.specs.declared.PartPlaces.{PartPlaces}
use Rattle.parser.specs.declared.FieldPlaces.{FieldPlaces}
use Rattle.parser.specs.declared.HeadPlaces.{HeadPlaces}
use Rattle.parser.specs.declared.ImportPlaces.{ImportPlaces}

-- the number of a token's kind, 0 where there is no token
abbrev pub kind_number : Option Kind → ℕ
kind_number None = 0
kind_number (Some kind) = kinds.number_of kind

-- a test of kinds answers as this test of their numbers does
abbrev pub Decides : (Kind → Bool → Type 0) → (ℕ → Bool) → Type 0
Decides P test = (kind : Kind) (b : Bool) → P kind b → b ≡ test (kinds.number_of kind)

-- the tokens ahead of a cursor, and the cursor past the first of them
abbrev pub ahead : Bytes → Cursor → List Token
ahead t c = tokens_from t c.at

abbrev pub past : Bytes → Cursor → Cursor
past t c = record { at = next_at t c.at }

-- a token stands at this place of a good table
abbrev pub Stands : Bytes → ℕ → Type 0
Stands t at = (Wf t at) × (at < length t)

-- r is past the token at c
pub record Stepped (t : Bytes) (c r : Cursor) : Type 0 where
  pub here : Stands t c.at
  pub first : ahead t c ≡ tok_at t c.at ∷ ahead t r
  pub place : r.at ≡ next_at t c.at
  pub wf : Wf t r.at

-- from c on a rule gives `out`, which is `ok` of a value or `fail` of a number, and d is where it stopped
pub record Reads {A : Type 0} (t : Bytes) (c : Cursor) (rule out : List Token → Answer A) (d : Cursor) : Type 0 where
  pub gives : rule (ahead t c) ≡ out (ahead t d)
  pub wf : Wf t d.at
  pub onward : c.at ≤ d.at

-- the rule fails so
abbrev pub Fails : {A : Type 0} → Bytes → Cursor → (List Token → Answer A) → Failure → Type 0
Fails t c rule f = Reads t c rule (fail (number_of f.fault)) f.at

-- One token, by the test of a kind.
pub record TokenPassed (t : Bytes) (c : Cursor) (rule : List Token → Answer Token) (after : Cursor) : Type 0 where
  pub read : Reads t c rule (ok (tok_at t c.at)) after
  pub here : Stands t c.at
  pub place : after.at ≡ next_at t c.at

abbrev pub TokenRead : Bytes → Cursor → (List Token → Answer Token) → Result Cursor Failure → Type 0
TokenRead t c rule r = MatchResult r (TokenPassed t c rule) (Fails t c rule)

-- A token that may be absent: its place, where it stands there, and the cursor past it.
pub record Skipped (t : Bytes) (c : Cursor) (test : ℕ → Bool) (s : Option ℕ × Cursor) : Type 0 where
  pub read : Reads t c (optional test ok) (ok (token_there t s.0)) s.1
  pub first : first_of (token_there t s.0) (tok_at t s.1.at) ≡ tok_at t c.at
  pub there : s.0 ≡ place_if (is_some s.0) c.at
  pub place : s.1.at ≡ skip_at t (is_some s.0) c.at

-- Types.
abbrev pub BaseStands : Bytes → ℕ → Bool → Type 0
BaseStands t at true = Stands t at × Stands t (next_at t at) × Stands t (next_at t (next_at t at))
BaseStands t at false = Stands t at

abbrev pub Brackets : Bytes → ℕ → ℕ → ℕ → Type 0
Brackets t close zero opens = Unit {0}
Brackets t close (suc d) opens = Stands t opens × Stands t (close + 12 * d) × Brackets t close d (next_at t opens)

pub record TypeStands (t : Bytes) (p : TypePlaces) : Type 0 where
  pub brackets : Brackets t p.close p.depth p.opens
  pub base : BaseStands t p.base p.dotted

pub record TypePassed (t : Bytes) (c : Cursor) (rule : List Token → Answer TypeTree) (p : TypePlaces) (after : Cursor) : Type 0 where
  pub read : Reads t c rule (ok (type_at t p)) after
  pub stands : TypeStands t p
  pub laid : p ≡ type_laid t c.at p.depth p.dotted
  pub end : after.at ≡ type_end p

abbrev pub TypeRead : Bytes → Cursor → (List Token → Answer TypeTree) → Result (TypePlaces × Cursor) Failure → Type 0
TypeRead t c rule r = MatchResult r (λ x. TypePassed t c rule x.0 x.1) (Fails t c rule)

abbrev pub base_step : Cursor → Bool → Cursor → TypePlaces × Cursor
base_step c dotted after = (record { opens = c.at; depth = 0; base = c.at; dotted = dotted; close = after.at }, after)

-- A field's type.
abbrev pub PartStands : Bytes → Option PartPlaces → Type 0
PartStands t p = IfSome p (λ q. Stands t q.colon × TypeStands t q.ty)

pub record PartPassed (t : Bytes) (c : Cursor) (p : Option PartPlaces) (after : Cursor) : Type 0 where
  pub read : Reads t c (optional (is k_colon) parse_type_part) (ok (part_at t p)) after
  pub stands : PartStands t p
  pub laid : p ≡ part_laid t c.at p
  pub end : after.at ≡ part_end c.at p

abbrev pub PartRead : Bytes → Cursor → Result (Option PartPlaces × Cursor) Failure → Type 0
PartRead t c r = MatchResult r (λ x. PartPassed t c x.0 x.1) (Fails t c (optional (is k_colon) parse_type_part))

-- Fields.
pub record FieldStands (t : Bytes) (f : FieldPlaces) : Type 0 where
  pub first : Stands t f.first
  pub comment : IfSome f.comment (Stands t)
  pub rule : IfSome f.rule (Stands t)
  pub name : Stands t f.name
  pub part : PartStands t f.part
  pub equals : Stands t f.equals
  pub index : Stands t f.index

pub record FieldPassed (t : Bytes) (c : Cursor) (f : FieldPlaces) (after : Cursor) : Type 0 where
  pub read : Reads t c parse_field (ok (field_at t f)) after
  pub stands : FieldStands t f
  pub laid : f ≡ field_laid t c.at (is_some f.comment) (is_some f.rule) (part_laid t (next_at t f.name) f.part)
  pub first : first_of (field_at t f).comment (first_of (field_at t f).rule (field_at t f).name) ≡ tok_at t f.first
  pub eats : c.at < after.at

abbrev pub FieldRead : Bytes → Cursor → Result (FieldPlaces × Cursor) Failure → Type 0
FieldRead t c r = MatchResult r (λ x. FieldPassed t c x.0 x.1) (Fails t c parse_field)

-- Heads of declarations.
pub record HeadStands (t : Bytes) (h : HeadPlaces) : Type 0 where
  pub first : Stands t h.first
  pub comment : IfSome h.comment (Stands t)
  pub keyword : Stands t h.keyword
  pub name : Stands t h.name

pub record HeadPassed (t : Bytes) (c : Cursor) (h : HeadPlaces) (after : Cursor) : Type 0 where
  pub read : Reads t c parse_head (ok (head_at t h)) after
  pub stands : HeadStands t h
  pub laid : h ≡ head_laid t c.at (is_some h.comment)
  pub first : first_of (head_at t h).comment (head_at t h).keyword ≡ tok_at t h.first
  pub eats : c.at < after.at

abbrev pub HeadRead : Bytes → Cursor → Result (HeadPlaces × Cursor) Failure → Type 0
HeadRead t c r = MatchResult r (λ x. HeadPassed t c x.0 x.1) (Fails t c parse_head)

-- Imports: the rule follows the keyword.
pub record ImportStands (t : Bytes) (i : ImportPlaces) : Type 0 where
  pub first : Stands t i.first
  pub path : Stands t i.path
  pub last : Stands t (last_place i)

pub record ImportPassed (t : Bytes) (c : Cursor) (i : ImportPlaces) (after : Cursor) : Type 0 where
  pub read : Reads t (past t c) (parse_import (tok_at t c.at)) (ok (import_at t i)) after
  pub stands : ImportStands t i
  pub laid : i ≡ import_laid t c.at (is_some i.alias)
  pub first : i.first ≡ c.at
  pub last : last_of (import_at t i).path (import_at t i).alias ≡ tok_at t (last_place i)

abbrev pub ImportRead : Bytes → Cursor → Result (ImportPlaces × Cursor) Failure → Type 0
ImportRead t c r = MatchResult r (λ x. ImportPassed t c x.0 x.1) (Fails t (past t c) (parse_import (tok_at t c.at)))
