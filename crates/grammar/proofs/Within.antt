-- Every schema that reading gives is within the limits of a schema table, part by part of its tree.
use Prim.Native.Nat.{ℕ, ◌≤◌, ◌<◌}
use mathlib.Core.Path.{◌≡◌, refl}
use mathlib.Core.Bool.{Bool, true, false}
use mathlib.Core.Option.{Option, none, some}
use mathlib.Core.List.{List, [], ◌∷◌, map}
use native.Mathlib.Omega.{arith}
use lib.Dec.{eqb, ltb}
use lib.ListN.{length, length-map}
use borrow.Author.Tests.{eq-eqb}
use Rattle.wire.specs.Bytes.{Bytes}
use Rattle.wire.specs.Pick.{pick}
use Rattle.wire.proofs.Numbers.{AllBytes}
use Rattle.identifier.specs.Byte.{is_printable}
use Rattle.identifier.specs.Name.{is_name}
use Rattle.stem.specs.Stem.{stem_of, import_name}
use Rattle.token.specs.Token.{Token}
use Rattle.token.specs.Kind.{is_rule, is_keyword, k_comment, k_equals, k_identifier, k_integer, k_left_curly, k_left_square, k_right_curly}
use Rattle.token.specs.Payload.{is_path}
use Rattle.token.specs.Table.{tokens, decode}
use Rattle.token.proofs.Walk.{squares_of}
use Rattle.schema.specs.Ast.{Schema}
use Rattle.schema.specs.Encode.{encode_schema}
use Rattle.schema.specs.Decode.{decode_schema}
use Rattle.schema.specs.Limits.{Each, RangeWithin, CommentWithin, ImportWithin, TypeWithin, nesting, FieldWithin, DeclarationWithin, Within}
use Rattle.schema.proofs.RoundTrip.{decode_encode}
use Rattle.grammar.specs.Tree.{TypeTree, array, plain, single, dotted, TypePart, FieldTree, DeletedPart, DeclarationTree, AliasPart, ImportTree}
use Rattle.grammar.specs.Tree.{SchemaTree, optionally, each, y_type, y_type_part, y_field, y_deleted, y_declaration, y_alias, y_import, y_body, yield, Is}
use Rattle.grammar.specs.Tree.{Passes, IfAny, All, WfType, WfTypePart, WfField, WfDeleted, WfDeclaration, WfAlias, WfImport, WfOpening, Wf}
use Rattle.grammar.specs.Place.{span, first_of}
use Rattle.grammar.specs.Sort.{sort_by}
use Rattle.grammar.specs.Meaning.{comment_of, type_of, type_part_of, number_of, field_of, deleted_of, declaration_of}
use Rattle.grammar.specs.Meaning.{alias_of, found_name, last_of, import_of, comes_before, schema_of}
use Rattle.grammar.specs.Condition.{Named, DeletedOnce}
use Rattle.grammar.specs.Derivation.{Derives}
use Rattle.grammar.specs.Reading.{schema, parse}
use Rattle.grammar.proofs.Count.{run_length}
use Rattle.grammar.proofs.Sorting.{sort_each, sort_length, chain, imports_ascend, indices_ascend}
use Rattle.grammar.proofs.Demand3.{sound}
use Rattle.grammar.proofs.Held.{Sane, Held, table_held, identifier_name, path_path, integer_small, comment_within}
use Rattle.grammar.proofs.Stems.{path_part, stem_part, part_name}

-- a part whose tokens are held gives P, and what follows it is held
pub record Gives {A : Type 0} (y : A → List Token → List Token) (Wf P : A → Type 0) : Type 0 where
  pub of : (x : A) (r : List Token) → Wf x → Held (y x r) → P x × Held r

module _ {A : Type 0} {y : A → List Token → List Token} {Wf P : A → Type 0} (gives : Gives y Wf P) where
  pub optionally_gives : Gives (optionally y) (IfAny Wf) (IfAny P)
  optionally_gives = record { of = go }
    where
      go : (o : Option A) (r : List Token) → IfAny Wf o → Held (optionally y o r) → IfAny P o × Held r
      go none r w h = (tt, h)
      go (some x) r w h = gives.of x r w h

  pub each_gives : Gives (each y) (All Wf) (All P)
  each_gives = record { of = go }
    where
      go : (xs : List A) (r : List Token) → All Wf xs → Held (each y xs r) → All P xs × Held r
      go [] r w h = (tt, h)
      go (x ∷ xs) r w h =
          let p = gives.of x (each y xs r) w.0 h in
          let q = go xs r w.1 p.1 in
          ((p.0, q.0), q.1)

-- a token of which Wf holds, and the rest that a table gives
abbrev pub SaneWith : (Token → Type 0) → Token → Type 0
SaneWith Wf t = Wf t × Sane t

pub token_gives : (Wf : Token → Type 0) → Gives ◌∷◌ Wf (SaneWith Wf)
token_gives Wf = record { of = λ t r w h. ((w, h.0), h.2) }

-- Ranges and comments.
span_within : {a b : Token} → Sane a → Sane b → RangeWithin (span a b)
span_within s u = record { start = s.start; end = u.end }

first_sane : (Wf : Token → Type 0) (o : Option Token) {t : Token} → IfAny (SaneWith Wf) o → Sane t → Sane (first_of o t)
first_sane Wf none w s = s
first_sane Wf (some c) w s = w.1

comments_within : (o : Option Token) → IfAny (SaneWith (Is k_comment)) o → CommentWithin (comment_of o)
comments_within none w = record { few = omega arith; each = refl }
comments_within (some c) w = comment_within w.1 w.0

-- Types.
type_good : (y : TypeTree) (r : List Token) → WfType y → Held (y_type y r) → TypeWithin (type_of y) × Held r
type_good (array l y c) r (v, w, x) (s, f, h) = let (p, (u, g, k)) = type_good y (c ∷ r) w h in ((span_within s u, p), k)
type_good (plain t) r w (s, f, h) = ((span_within s s, w), h)
type_good (single n) r w (s, f, h) = ((span_within s s, tt, identifier_name s w), h)
type_good (dotted i d n) r (v, w, x) (s, f, (s', f', (s'', f'', h))) = ((span_within s s'', identifier_name s v, identifier_name s'' x), h)

-- each array of a type begins with one of the LeftSquares in a row
squares : (y : TypeTree) (r : List Token) → WfType y → nesting (type_of y) ≤ squares_of (y_type y r)
unfolding pick
squares (array l y c) r (v, w, x) = rw (eq-eqb l.kind k_left_square v) (omega (arith, squares y (c ∷ r) w))
squares (plain t) r w = omega arith
squares (single n) r w = omega arith
squares (dotted i d n) r w = omega arith

shallow : (y : TypeTree) (r : List Token) → Held (y_type y r) → squares_of (y_type y r) ≤ 64
shallow (array l y c) r (s, f, h) = f.shallow
shallow (plain t) r (s, f, h) = f.shallow
shallow (single n) r (s, f, h) = f.shallow
shallow (dotted i d n) r (s, f, h) = f.shallow

abbrev TypeGood : TypePart → Type 0
TypeGood p = TypeWithin (type_of p.type) × (nesting (type_of p.type) ≤ 64)

part_gives : Gives y_type_part WfTypePart TypeGood
part_gives = record { of = go }
  where
    go : (p : TypePart) (r : List Token) → WfTypePart p → Held (y_type_part p r) → TypeGood p × Held r
    go p r w (s, f, h) =
        let q = type_good p.type r w.type h in
        ((q.0, omega (arith, squares p.type r w.type, shallow p.type r h)), q.1)

type_within : (o : Option TypePart) {next : Token} → IfAny TypeGood o → Sane next → TypeWithin (type_part_of o next) × (nesting (type_part_of o next) ≤ 64)
type_within none w s = ((record { start = s.start; end = s.start }, refl), omega arith)
type_within (some p) w s = w

-- Fields.
field_good : (f : FieldTree) (r : List Token) → WfField f → Held (y_field f r) → FieldWithin (field_of f) × Held r
field_good f r w h =
    let c = (optionally_gives (token_gives (Is k_comment))).of f.comment _ w.comment h in
    let x = (optionally_gives (token_gives (Passes is_rule))).of f.rule _ w.rule c.1 in
    let n = (token_gives (Is k_identifier)).of f.name _ w.name x.1 in
    let y = (optionally_gives part_gives).of f.type _ w.type n.1 in
    let e = (token_gives (Is k_equals)).of f.equals _ w.equals y.1 in
    let i = (token_gives (Is k_integer)).of f.index r w.index e.1 in
    let z = type_within f.type y.0 e.0.1 in (
      record {
        range = span_within (first_sane (Is k_comment) f.comment c.0 (first_sane (Passes is_rule) f.rule x.0 n.0.1)) i.0.1;
        comment = comments_within f.comment c.0;
        name = identifier_name n.0.1 n.0.0;
        type = z.0;
        nested = z.1;
        index = integer_small i.0.1 i.0.0;
      },
      i.1,
    )

field_gives : Gives y_field WfField (λ f. FieldWithin (field_of f))
field_gives = record { of = field_good }

-- Lists.
module _ {A B : Type 0} (P : B → Type 0) (f : A → B) where
  pub mapped : (xs : List A) → All (λ x. P (f x)) xs → Each P (map f xs)
  mapped [] a = tt
  mapped (x ∷ xs) a = (a.0, mapped xs a.1)

both : {A : Type 0} (P Q : A → Type 0) (xs : List A) → All P xs → All Q xs → All (λ x. P x × Q x) xs
both P Q [] p q = tt
both P Q (x ∷ xs) p q = ((p.0, q.0), both P Q xs p.1 q.1)

-- Deleted indices.
abbrev Small : ℕ → Type 0
Small n = n < 18446744073709551616

abbrev IndicesGood : DeletedPart → Type 0
IndicesGood p = All (λ t. Small (number_of t)) p.indices × (length p.indices ≤ 4096)

integer_gives : Gives ◌∷◌ (Is k_integer) (λ t. Small (number_of t))
integer_gives = record { of = λ t r w h. (integer_small h.0 w, h.2) }

deleted_gives : Gives y_deleted WfDeleted IndicesGood
deleted_gives = record { of = go }
  where
    go : (p : DeletedPart) (r : List Token) → WfDeleted p → Held (y_deleted p r) → IndicesGood p × Held r
    go p r w (s, f, h) =
        let q = (each_gives integer_gives).of p.indices r w.indices h in
        ((q.0, omega (arith, run_length p.indices r, f.short)), q.1)

deleted_within : (o : Option DeletedPart) → IfAny IndicesGood o → (Each Small (deleted_of o)) × (length (deleted_of o) ≤ 4096)
deleted_within none w = (tt, omega arith)
deleted_within (some p) w = (mapped Small number_of p.indices w.0, rw (length-map p.indices number_of) w.1)

-- Declarations.
abbrev Sound : DeclarationTree → Type 0
Sound d = WfDeclaration d × DeletedOnce d

declaration_good : (d : DeclarationTree) (r : List Token) → Sound d → Held (y_declaration d r) → DeclarationWithin (declaration_of d) × Held r
declaration_good d r (w, o) h =
    let c = (optionally_gives (token_gives (Is k_comment))).of d.head.comment _ w.head.comment h in
    let k = (token_gives (Passes is_keyword)).of d.head.keyword _ w.head.keyword c.1 in
    let n = (token_gives (Is k_identifier)).of d.head.name _ w.head.name k.1 in
    let l = (token_gives (Is k_left_curly)).of d.head.left _ w.head.left n.1 in
    let fs = (each_gives field_gives).of d.fields _ w.fields l.1 in
    let x = (optionally_gives deleted_gives).of d.deleted _ w.deleted fs.1 in
    let z = (token_gives (Is k_right_curly)).of d.right r w.right x.1 in
    let ns = deleted_of d.deleted in
    let q = deleted_within d.deleted x.0 in (
      record {
        range = span_within (first_sane (Is k_comment) d.head.comment c.0 k.0.1) z.0.1;
        comment = comments_within d.head.comment c.0;
        name = identifier_name n.0.1 n.0.0;
        fields = mapped FieldWithin field_of d.fields fs.0;
        deleted = record {
          each = sort_each ltb Small ns q.0;
          ascending = chain ltb (sort_by ltb ns) (indices_ascend ns o);
          few = omega (arith, sort_length ltb ns, q.1);
        };
      },
      z.1,
    )

declaration_gives : Gives y_declaration Sound (λ d. DeclarationWithin (declaration_of d))
declaration_gives = record { of = declaration_good }

-- Imports.
alias_name : (path a : Bytes) → is_path path ≡ true → is_name a ≡ true → eqb (length (import_name path a)) 0 ≡ false → is_name (import_name path a) ≡ true
unfolding import_name pick
alias_name path a p n e = go (eqb (length a) 0) refl
  where
    go : (b : Bool) → eqb (length a) 0 ≡ b → is_name (pick (eqb (length a) 0) (stem_of path) a) ≡ true
    go true q = rw q (part_name (stem_of path) (stem_part is_printable 128 path (path_part path p)) (rw q at e))
    go false q = rw q n

stem_name : (path : Bytes) → is_path path ≡ true → eqb (length (import_name path [])) 0 ≡ false → is_name (import_name path []) ≡ true
unfolding import_name pick
stem_name path p e = part_name (stem_of path) (stem_part is_printable 128 path (path_part path p)) e

abbrev AliasGood : AliasPart → Type 0
AliasGood p = (is_name p.name.payload ≡ true) × Sane p.name

alias_gives : Gives y_alias WfAlias AliasGood
alias_gives = record { of = go }
  where
    go : (p : AliasPart) (r : List Token) → WfAlias p → Held (y_alias p r) → AliasGood p × Held r
    go p r w (s, f, (s', f', h)) = ((identifier_name s' w.name, s'), h)

found_name_lem : (i : ImportTree) → is_path i.path.payload ≡ true → IfAny AliasGood i.alias → Named i → is_name (found_name i) ≡ true
found_name_lem i p a e = go i.alias a e
  where
    go : (o : Option AliasPart) → IfAny AliasGood o
        → eqb (length (import_name i.path.payload (alias_of o))) 0 ≡ false → is_name (import_name i.path.payload (alias_of o)) ≡ true
    go none a e = stem_name i.path.payload p e
    go (some x) a e = alias_name i.path.payload x.name.payload p a.0 e

last_sane : (t : Token) (o : Option AliasPart) → Sane t → IfAny AliasGood o → Sane (last_of t o)
last_sane t none s a = s
last_sane t (some p) s a = a.1

abbrev Known : ImportTree → Type 0
Known i = WfImport i × Named i

import_good : (i : ImportTree) (r : List Token) → Known i → Held (y_import i r) → ImportWithin (import_of i) × Held r
unfolding pick
import_good i r (w, n) (s, f, (s', f', h)) =
    let a = (optionally_gives alias_gives).of i.alias r w.alias h in
    let p = path_path s' w.path in
    (record { range = span_within s (last_sane i.path i.alias s' a.0); name = rw n (found_name_lem i p a.0 n); path = p }, a.1)

import_gives : Gives y_import Known (λ i. ImportWithin (import_of i))
import_gives = record { of = import_good }

-- The schema.
opening_comment : (o : Option Token) (r : List Token) → WfOpening o r → IfAny (Is k_comment) o
opening_comment none r w = tt
opening_comment (some c) r w = w.0

pub tree_within : (ts : List Token) (tree : SchemaTree) → Derives ts tree → Held ts → Within (schema_of tree)
tree_within ts tree d h₀ =
    let h : Held (yield tree) = rw d.tokens h₀ in
    let c = (optionally_gives (token_gives (Is k_comment))).of tree.comment (y_body tree) (opening_comment tree.comment (y_body tree) d.wf.opening) h in
    let i = (each_gives import_gives).of tree.imports _ (both WfImport Named tree.imports d.wf.imports d.good.named) c.1 in
    let e = (each_gives declaration_gives).of tree.declarations []
    (both WfDeclaration DeletedOnce tree.declarations d.wf.declarations d.good.once) i.1 in
    record {
      comment = comments_within tree.comment c.0;
      imports = sort_each comes_before ImportWithin (map import_of tree.imports) (mapped ImportWithin import_of tree.imports i.0);
      ascending = chain comes_before (schema_of tree).imports (imports_ascend tree d.good);
      declarations = mapped DeclarationWithin declaration_of tree.declarations e.0;
    }

pub schema_within : (table : Bytes) (ts : List Token) (s : Schema) → AllBytes table → decode table ≡ tokens ts → parse ts ≡ schema s → Within s
schema_within table ts s a d p = let (tree, t, e) = sound ts s p in rw e (tree_within ts tree t (table_held table ts a d))

-- so its table decodes to it
pub schema_back : (table : Bytes) (ts : List Token) (s : Schema) → AllBytes table → decode table ≡ tokens ts → parse ts ≡ schema s
    → decode_schema (encode_schema s) ≡ some s
schema_back table ts s a d p = decode_encode s (schema_within table ts s a d p)
