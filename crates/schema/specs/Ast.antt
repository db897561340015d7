-- A schema as schema.rs has it, with source ranges. Names are kept as spelled, comments as their paragraphs.
use Rattle.std.specs.Prelude.{ℕ, List}
use Rattle.std.proofs.Math.Option.{Option}
use Rattle.wire.specs.Bytes.{Bytes}

pub record Range : Type 0 where
  pub start : ℕ
  pub end : ℕ

-- an array of its inner type, a plain type by its token kind, or a custom type by its import's name, where it has one, and its own
pub data TypeVariant : Type 0 where
  array : Range → TypeVariant → TypeVariant
  plain : Range → ℕ → TypeVariant
  custom : Range → Option Bytes → Bytes → TypeVariant

pub data Rule : Type 0 where
  required asymmetric optional : Rule

pub record Field : Type 0 where
  pub range : Range
  pub comment : List Bytes
  pub rule : Rule
  pub name : Bytes
  pub type : TypeVariant
  pub index : ℕ

pub record Import : Type 0 where
  pub range : Range
  pub name : Bytes
  pub path : Bytes

pub data DeclarationVariant : Type 0 where
  struct choice : DeclarationVariant

pub record Declaration : Type 0 where
  pub range : Range
  pub comment : List Bytes
  pub variant : DeclarationVariant
  pub name : Bytes
  pub fields : List Field
  pub deleted : List ℕ

pub record Schema : Type 0 where
  pub comment : List Bytes
  pub imports : List Import
  pub declarations : List Declaration
