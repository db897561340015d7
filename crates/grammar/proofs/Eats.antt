-- Each tree yields at least one token, and nothing is lost of the rest.
use Prim.Native.Nat.{◌+◌, ◌≤◌, ◌<◌}
use mathlib.Core.Option.{Option, none, some}
use mathlib.Core.List.{List, [], ◌∷◌}
use native.Mathlib.Omega.{arith}
use lib.ListN.{length}
use Rattle.token.specs.Token.{Token}
use Rattle.grammar.specs.Tree.{TypeTree, array, plain, single, dotted, TypePart, FieldTree, DeletedPart, HeadTree, DeclarationTree, AliasPart}
use Rattle.grammar.specs.Tree.{ImportTree, optionally, each, y_type, y_type_part, y_field, y_deleted, y_head, y_declaration, y_alias, y_import}

module _ {A : Type 0} (y : A → List Token → List Token) (keeps : (x : A) (r : List Token) → length r < length (y x r)) where
  pub optionally_keeps : (o : Option A) (r : List Token) → length r ≤ length (optionally y o r)
  optionally_keeps none r = omega arith
  optionally_keeps (some x) r = omega (arith, keeps x r)

  pub each_keeps : (xs : List A) (r : List Token) → length r ≤ length (each y xs r)
  each_keeps [] r = omega arith
  each_keeps (x ∷ xs) r = omega (arith, keeps x (each y xs r), each_keeps xs r)

token_eats : (t : Token) (r : List Token) → length r < length (t ∷ r)
token_eats t r = omega arith

type_eats : (y : TypeTree) (r : List Token) → length r < length (y_type y r)
type_eats (array l y c) r = omega (arith, type_eats y (c ∷ r))
type_eats (plain t) r = omega arith
type_eats (single n) r = omega arith
type_eats (dotted i d n) r = omega arith

part_eats : (p : TypePart) (r : List Token) → length r < length (y_type_part p r)
part_eats p r = omega (arith, type_eats p.type r)

pub field_eats : (f : FieldTree) (r : List Token) → length r < length (y_field f r)
field_eats f r =
    let r₁ : List Token = f.equals ∷ f.index ∷ r in
    let r₂ : List Token = f.name ∷ optionally y_type_part f.type r₁ in
    omega (
      arith,
      optionally_keeps ◌∷◌ token_eats f.comment (optionally ◌∷◌ f.rule r₂),
      optionally_keeps ◌∷◌ token_eats f.rule r₂,
      optionally_keeps y_type_part part_eats f.type r₁,
    )

deleted_eats : (p : DeletedPart) (r : List Token) → length r < length (y_deleted p r)
deleted_eats p r = omega (arith, each_keeps ◌∷◌ token_eats p.indices r)

pub head_eats : (h : HeadTree) (r : List Token) → length r + 3 ≤ length (y_head h r)
head_eats h r = omega (arith, optionally_keeps ◌∷◌ token_eats h.comment (h.keyword ∷ h.name ∷ h.left ∷ r))

pub inside_keeps : (fs : List FieldTree) (o : Option DeletedPart) (r : List Token) → length r ≤ length (each y_field fs (optionally y_deleted o r))
inside_keeps fs o r = omega (arith, each_keeps y_field field_eats fs (optionally y_deleted o r), optionally_keeps y_deleted deleted_eats o r)

pub declaration_eats : (d : DeclarationTree) (r : List Token) → length r < length (y_declaration d r)
declaration_eats d r =
    let r₁ : List Token = d.right ∷ r in
    omega (arith, head_eats d.head (each y_field d.fields (optionally y_deleted d.deleted r₁)), inside_keeps d.fields d.deleted r₁)

alias_eats : (p : AliasPart) (r : List Token) → length r < length (y_alias p r)
alias_eats p r = omega arith

pub import_eats : (i : ImportTree) (r : List Token) → length r + 2 ≤ length (y_import i r)
import_eats i r = omega (arith, optionally_keeps y_alias alias_eats i.alias r)
