-- Document 01, "The grammar", as derivation trees: what stands where (the types), the tokens in order (the yields), their kinds (Wf).
-- Nothing here speaks of a parser.
use Rattle.std.specs.Prelude.{ℕ, ◌+◌, ◌≤◌, ◌≡◌, Bool, true, List, [], ◌∷◌}
use Rattle.std.proofs.Math.Option.{Option, none, some}
use Rattle.token.specs.Token.{Token}
use Rattle.token.specs.Kind.{is_plain, is_rule, is_keyword, k_as, k_colon, k_comment, k_deleted, k_dot, k_equals, k_identifier}
use Rattle.token.specs.Kind.{k_import, k_integer, k_left_curly, k_left_square, k_path, k_right_curly, k_right_square}

-- Type: `[` type `]`, a plain type, Identifier, or Identifier `.` Identifier
pub data TypeTree : Type 0 where
  array : Token → TypeTree → Token → TypeTree
  plain : Token → TypeTree
  single : Token → TypeTree
  dotted : Token → Token → Token → TypeTree

pub record TypePart : Type 0 where
  pub colon : Token
  pub type : TypeTree

-- Field: optional Comment, optional `asymmetric` or `optional`, Identifier, optionally `:` and a type, `=`, Integer
pub record FieldTree : Type 0 where
  pub comment : Option Token
  pub rule : Option Token
  pub name : Token
  pub type : Option TypePart
  pub equals : Token
  pub index : Token

pub record DeletedPart : Type 0 where
  pub deleted : Token
  pub indices : List Token

pub record HeadTree : Type 0 where
  pub comment : Option Token
  pub keyword : Token
  pub name : Token
  pub left : Token

-- Declaration: optional Comment, `struct` or `choice`, Identifier, `{`; fields, optionally `deleted` and any number of Integers, `}`
pub record DeclarationTree : Type 0 where
  pub head : HeadTree
  pub fields : List FieldTree
  pub deleted : Option DeletedPart
  pub right : Token

pub record AliasPart : Type 0 where
  pub keyword : Token
  pub name : Token

-- Import: `import` Path, optionally `as` Identifier
pub record ImportTree : Type 0 where
  pub keyword : Token
  pub path : Token
  pub alias : Option AliasPart

-- Schema: optional schema comment, imports, declarations
pub record SchemaTree : Type 0 where
  pub comment : Option Token
  pub imports : List ImportTree
  pub declarations : List DeclarationTree

-- The tokens of each, before those of `rest`. A token yields itself: `◌∷◌`.
module _ {A : Type 0} where
  abbrev pub optionally : (A → List Token → List Token) → Option A → List Token → List Token
  optionally y none rest = rest
  optionally y (some x) rest = y x rest

  abbrev pub each : (A → List Token → List Token) → List A → List Token → List Token
  each y [] rest = rest
  each y (x ∷ xs) rest = y x (each y xs rest)

abbrev pub y_type : TypeTree → List Token → List Token
y_type (array l y r) rest = l ∷ y_type y (r ∷ rest)
y_type (plain t) rest = t ∷ rest
y_type (single n) rest = n ∷ rest
y_type (dotted i d n) rest = i ∷ d ∷ n ∷ rest

abbrev pub y_type_part : TypePart → List Token → List Token
y_type_part p rest = p.colon ∷ y_type p.type rest

abbrev pub y_field : FieldTree → List Token → List Token
y_field f rest =
    optionally ◌∷◌ f.comment
    (optionally ◌∷◌ f.rule (f.name ∷ optionally y_type_part f.type (f.equals ∷ f.index ∷ rest)))

abbrev pub y_deleted : DeletedPart → List Token → List Token
y_deleted p rest = p.deleted ∷ each ◌∷◌ p.indices rest

abbrev pub y_head : HeadTree → List Token → List Token
y_head h rest = optionally ◌∷◌ h.comment (h.keyword ∷ h.name ∷ h.left ∷ rest)

abbrev pub y_declaration : DeclarationTree → List Token → List Token
y_declaration d rest = y_head d.head (each y_field d.fields (optionally y_deleted d.deleted (d.right ∷ rest)))

abbrev pub y_alias : AliasPart → List Token → List Token
y_alias p rest = p.keyword ∷ p.name ∷ rest

abbrev pub y_import : ImportTree → List Token → List Token
y_import i rest = i.keyword ∷ i.path ∷ optionally y_alias i.alias rest

-- what follows the schema's comment
abbrev pub y_body : SchemaTree → List Token
y_body s = each y_import s.imports (each y_declaration s.declarations [])

abbrev pub yield : SchemaTree → List Token
yield s = optionally ◌∷◌ s.comment (y_body s)

-- The kinds.
abbrev pub Is : ℕ → Token → Type 0
Is k t = t.kind ≡ k

abbrev pub Passes : (ℕ → Bool) → Token → Type 0
Passes p t = p t.kind ≡ true

module _ {A : Type 0} where
  abbrev pub IfAny : (A → Type 0) → Option A → Type 0
  IfAny P none = Unit {0}
  IfAny P (some x) = P x

  abbrev pub All : (A → Type 0) → List A → Type 0
  All P [] = Unit {0}
  All P (x ∷ xs) = P x × All P xs

abbrev pub WfType : TypeTree → Type 0
WfType (array l y r) = Is k_left_square l × WfType y × Is k_right_square r
WfType (plain t) = Passes is_plain t
WfType (single n) = Is k_identifier n
WfType (dotted i d n) = Is k_identifier i × Is k_dot d × Is k_identifier n

pub record WfTypePart (p : TypePart) : Type 0 where
  pub colon : Is k_colon p.colon
  pub type : WfType p.type

pub record WfField (f : FieldTree) : Type 0 where
  pub comment : IfAny (Is k_comment) f.comment
  pub rule : IfAny (Passes is_rule) f.rule
  pub name : Is k_identifier f.name
  pub type : IfAny WfTypePart f.type
  pub equals : Is k_equals f.equals
  pub index : Is k_integer f.index

pub record WfDeleted (p : DeletedPart) : Type 0 where
  pub deleted : Is k_deleted p.deleted
  pub indices : All (Is k_integer) p.indices

pub record WfHead (h : HeadTree) : Type 0 where
  pub comment : IfAny (Is k_comment) h.comment
  pub keyword : Passes is_keyword h.keyword
  pub name : Is k_identifier h.name
  pub left : Is k_left_curly h.left

pub record WfDeclaration (d : DeclarationTree) : Type 0 where
  pub head : WfHead d.head
  pub fields : All WfField d.fields
  pub deleted : IfAny WfDeleted d.deleted
  pub right : Is k_right_curly d.right

pub record WfAlias (p : AliasPart) : Type 0 where
  pub keyword : Is k_as p.keyword
  pub name : Is k_identifier p.name

pub record WfImport (i : ImportTree) : Type 0 where
  pub keyword : Is k_import i.keyword
  pub path : Is k_path i.path
  pub alias : IfAny WfAlias i.alias

-- the token after the comment c is `struct` or `choice`, and starts at c's end + 1 or before
abbrev pub Attached : Token → List Token → Type 0
Attached c [] = ⊥
Attached c (t ∷ ts) = Passes is_keyword t × (t.start ≤ c.end + 1)

-- a Comment as first token is the schema's, unless it is so attached; then it is the declaration's
abbrev pub WfOpening : Option Token → List Token → Type 0
WfOpening (some c) rest = Is k_comment c × ¬ (Attached c rest)
WfOpening none [] = Unit {0}
WfOpening none (t ∷ ts) = Is k_comment t → Attached t ts

pub record Wf (s : SchemaTree) : Type 0 where
  pub opening : WfOpening s.comment (y_body s)
  pub imports : All WfImport s.imports
  pub declarations : All WfDeclaration s.declarations
