-- A construct stands in a good table where its places say: its tokens are there, and are of the kinds that the grammar asks.
use Rattle.std.specs.Prelude.{ℕ, ◌≡◌, Bool, true, Option, IfSome}
use Rattle.std.proofs.Math.Option as maybe
use Rattle.wire.specs.Bytes.{Bytes}
use Rattle.token.specs.Token.{Token}
use Rattle.token.specs.Kind.{k_comment, k_identifier}
use Rattle.token.specs.Payload.{are_paragraphs, paragraphs_of, paragraph_bytes}
use Rattle.token.specs.Places.{tok_at}
use Rattle.grammar.specs.Tree.{Is, IfAny, WfType, WfTypePart, WfField, WfHead}
use Rattle.grammar.specs.Place.{first_of}
use Rattle.grammar.specs.Meaning.{comment_of}
use Rattle.parser.specs.Trees.{base_at, type_at, part_at, field_at, head_at}
use Rattle.parser.specs.Steps.{Stands, BaseStands, TypeStands, PartStands, FieldStands, HeadStands}
use Rattle.parser.specs.declared.TypePlaces.{TypePlaces}
use Rattle.parser.specs.declared.PartPlaces.{PartPlaces}
use Rattle.parser.specs.declared.FieldPlaces.{FieldPlaces}
use Rattle.parser.specs.declared.HeadPlaces.{HeadPlaces}

pub record BaseHere (t : Bytes) (at : ℕ) (dotted : Bool) : Type 0 where
  pub stands : BaseStands t at dotted
  pub wf : WfType (base_at t at dotted)

pub record TypeHere (t : Bytes) (p : TypePlaces) : Type 0 where
  pub stands : TypeStands t p
  pub wf : WfType (type_at t p)

pub record PartHere (t : Bytes) (p : Option PartPlaces) : Type 0 where
  pub stands : PartStands t p
  pub wf : IfAny WfTypePart (part_at t p)

pub record FieldHere (t : Bytes) (f : FieldPlaces) : Type 0 where
  pub stands : FieldStands t f
  pub wf : WfField (field_at t f)
  pub first : first_of (field_at t f).comment (first_of (field_at t f).rule (field_at t f).name) ≡ tok_at t f.first

pub record HeadHere (t : Bytes) (h : HeadPlaces) : Type 0 where
  pub stands : HeadStands t h
  pub wf : WfHead (head_at t h)
  pub first : first_of (head_at t h).comment (head_at t h).keyword ≡ tok_at t h.first

pub record NameHere (t : Bytes) (at : ℕ) : Type 0 where
  pub stands : Stands t at
  pub wf : Is k_identifier (tok_at t at)

-- a comment, where there is one
abbrev pub CommentHere : Bytes → Option ℕ → Type 0
CommentHere t comment = IfSome comment (λ at. Stands t at × Is k_comment (tok_at t at))

-- whole paragraphs, which are found in their bytes
pub record Whole (p : Bytes) : Type 0 where
  pub are : are_paragraphs 32 p ≡ true
  pub again : paragraph_bytes (paragraphs_of p) ≡ p

-- these are the paragraphs of a comment, none where there is no comment
pub record Paragraphs (comment : maybe.Option Token) (p : Bytes) : Type 0 where
  pub whole : Whole p
  pub these : paragraphs_of p ≡ comment_of comment
