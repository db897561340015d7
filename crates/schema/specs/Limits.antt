-- Document 01, "Tables": the schemas that a schema table can hold, by the limits of its names, paths, paragraphs, numbers and nesting, and its orders.
use Rattle.std.specs.Prelude.{◌≡◌, Bool, true, List, [], ◌∷◌, ℕ, suc, ◌+◌, ◌*◌, ◌≤◌, ◌<◌, ltb, length}
use Rattle.std.proofs.Math.Option.{Option, none, some}
use Rattle.wire.specs.Bytes.{Bytes}
use Rattle.identifier.specs.Name.{is_name}
use Rattle.identifier.specs.Order.{is_before}
use Rattle.token.specs.Kind.{is_plain}
use Rattle.token.specs.Payload.{is_path, all_paragraphs}
use Rattle.schema.specs.Ast.{Range, TypeVariant, Field, Import, Declaration, Schema}
use Rattle.schema.specs.Order.{is_chain}

-- all of them
abbrev pub Each : {A : Type 0} → (A → Type 0) → List A → Type 0
Each P [] = Unit {0}
Each P (a ∷ later) = P a × Each P later

-- u32s
pub record RangeWithin (r : Range) : Type 0 where
  pub start : r.start < 4294967296
  pub end : r.end < 4294967296

pub record CommentWithin (ps : List Bytes) : Type 0 where
  pub few : length ps ≤ 32
  pub each : all_paragraphs ps ≡ true

pub record ImportWithin (i : Import) : Type 0 where
  pub range : RangeWithin i.range
  pub name : is_name i.name ≡ true
  pub path : is_path i.path ≡ true

abbrev pub OptionWithin : Option Bytes → Type 0
OptionWithin none = Unit {0}
OptionWithin (some name) = is_name name ≡ true

abbrev pub TypeWithin : TypeVariant → Type 0
TypeWithin (TypeVariant.array r inner) = RangeWithin r × TypeWithin inner
TypeWithin (TypeVariant.plain r kind) = RangeWithin r × (is_plain kind ≡ true)
TypeWithin (TypeVariant.custom r import name) = RangeWithin r × OptionWithin import × (is_name name ≡ true)

-- how many arrays nest
abbrev pub nesting : TypeVariant → ℕ
nesting (TypeVariant.array r inner) = suc (nesting inner)
nesting (TypeVariant.plain r kind) = 0
nesting (TypeVariant.custom r import name) = 0

pub record FieldWithin (f : Field) : Type 0 where
  pub range : RangeWithin f.range
  pub comment : CommentWithin f.comment
  pub name : is_name f.name ≡ true
  pub type : TypeWithin f.type
  pub nested : nesting f.type ≤ 64
  pub index : f.index < 18446744073709551616

-- deleted indices are u64s in one record, whose length is a u16
pub record DeletedWithin (ns : List ℕ) : Type 0 where
  pub each : Each (λ n. n < 18446744073709551616) ns
  pub ascending : is_chain ltb ns ≡ true
  pub few : 12 + 8 * length ns < 65536

pub record DeclarationWithin (d : Declaration) : Type 0 where
  pub range : RangeWithin d.range
  pub comment : CommentWithin d.comment
  pub name : is_name d.name ≡ true
  pub fields : Each FieldWithin d.fields
  pub deleted : DeletedWithin d.deleted

abbrev pub is_earlier : Import → Import → Bool
is_earlier i j = is_before i.name j.name

pub record Within (s : Schema) : Type 0 where
  pub comment : CommentWithin s.comment
  pub imports : Each ImportWithin s.imports
  pub ascending : is_chain is_earlier s.imports ≡ true
  pub declarations : Each DeclarationWithin s.declarations
