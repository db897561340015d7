-- Document 01, "Ranges": each construct of a schema runs from the start of its first token to the end of its last one.
use Prim.Native.Nat.{ℕ}
use mathlib.Core.Path.{◌≡◌, refl, sym, ◌∙◌}
use mathlib.Core.Option.{Option, none, some}
use mathlib.Core.List.{List, [], ◌∷◌}
use Rattle.token.specs.Token.{Token, end_of}
use Rattle.schema.specs.Ast.{Range, TypeVariant}
use Rattle.grammar.specs.Tree.{TypeTree, array, plain, single, dotted, FieldTree, DeclarationTree, AliasPart}
use Rattle.grammar.specs.Tree.{ImportTree, optionally, each, y_type, y_type_part, y_field, y_deleted, y_declaration, y_alias, y_import}
use Rattle.grammar.specs.Place.{span, first_of}
use Rattle.grammar.specs.Meaning.{type_of, field_of, declaration_of, last_of, import_of}

abbrev pub start_of : List Token → ℕ
start_of [] = 0
start_of (t ∷ ts) = t.start

-- from the first token's start to the last one's end
abbrev pub whole : List Token → Range
whole ts = record { start = start_of ts; end = end_of 0 ts }

abbrev pub type_range : TypeVariant → Range
type_range (TypeVariant.array r inner) = r
type_range (TypeVariant.plain r kind) = r
type_range (TypeVariant.custom r import name) = r

-- where the tokens end that follow a tree does not turn on them
abbrev Ends : {A : Type 0} → (A → List Token → List Token) → Type 0
Ends {A} y = (x : A) (before : ℕ) → (end : ℕ) × ((r : List Token) → end_of before (y x r) ≡ end_of end r)

module _ {A : Type 0} (y : A → List Token → List Token) (ends : Ends y) where
  optionally_ends : Ends (optionally y)
  optionally_ends none before = (before, λ r. refl)
  optionally_ends (some x) before = ends x before

  each_ends : Ends (each y)
  each_ends [] before = (before, λ r. refl)
  each_ends (x ∷ xs) before =
      let (c, p) = ends x before in
      let (e, q) = each_ends xs c in
      (e, λ r. p (each y xs r) ∙ q r)

token_ends : Ends ◌∷◌
token_ends t before = (t.end, λ r. refl)

type_ends : Ends y_type
type_ends (array l y c) before = (c.end, λ r. (type_ends y l.end).1 (c ∷ r))
type_ends (plain t) before = (t.end, λ r. refl)
type_ends (single n) before = (n.end, λ r. refl)
type_ends (dotted i d n) before = (n.end, λ r. refl)

part_ends : Ends y_type_part
part_ends p before = type_ends p.type p.colon.end

deleted_ends : Ends y_deleted
deleted_ends p before = each_ends ◌∷◌ token_ends p.indices p.deleted.end

field_ends : Ends y_field
field_ends f before =
    let (c, p) = optionally_ends ◌∷◌ token_ends f.comment before in
    let (d, q) = optionally_ends ◌∷◌ token_ends f.rule c in
    (f.index.end, λ r. p _ ∙ q _ ∙ (optionally_ends y_type_part part_ends f.type f.name.end).1 (f.equals ∷ f.index ∷ r))

-- the optional token, else the one after it, is the first
first_start : (o : Option Token) (t : Token) (r : List Token) → (first_of o t).start ≡ start_of (optionally ◌∷◌ o (t ∷ r))
first_start none t r = refl
first_start (some c) t r = refl

first_first : (o p : Option Token) (t : Token) (r : List Token)
    → (first_of o (first_of p t)).start ≡ start_of (optionally ◌∷◌ o (optionally ◌∷◌ p (t ∷ r)))
first_first none p t r = first_start p t r
first_first (some c) p t r = refl

range : (a b c d : ℕ) → a ≡ c → b ≡ d → ◌≡◌ {A = Range} (record { start = a; end = b }) (record { start = c; end = d })
range a b c d p q = cc

pub type_range_lem : (y : TypeTree) → type_range (type_of y) ≡ whole (y_type y [])
type_range_lem (array l y c) = range _ _ _ _ refl (sym ((type_ends y l.end).1 (c ∷ [])))
type_range_lem (plain t) = refl
type_range_lem (single n) = refl
type_range_lem (dotted i d n) = refl

pub field_range : (f : FieldTree) → (field_of f).range ≡ whole (y_field f [])
unfolding field_ends
field_range f = range _ _ _ _ (first_first f.comment f.rule f.name _) (sym ((field_ends f 0).1 []))

pub declaration_range : (d : DeclarationTree) → (declaration_of d).range ≡ whole (y_declaration d [])
declaration_range d =
    let (c, p) = optionally_ends ◌∷◌ token_ends d.head.comment 0 in
    let (e, q) = each_ends y_field field_ends d.fields d.head.left.end in
    range _ _ _ _ (first_start d.head.comment d.head.keyword _)
    (sym (p _ ∙ q _ ∙ (optionally_ends y_deleted deleted_ends d.deleted e).1 (d.right ∷ [])))

pub import_range : (i : ImportTree) → (import_of i).range ≡ whole (y_import i [])
import_range i = go i.alias
  where
    go : (o : Option AliasPart) → span i.keyword (last_of i.path o) ≡ whole (i.keyword ∷ i.path ∷ optionally y_alias o [])
    go none = refl
    go (some p) = refl
