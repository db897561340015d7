-- Fields and declarations, one after the other.
use Prim.Native.Nat.{ℕ, ◌≤◌, ◌<◌}
use mathlib.Core.Path.{◌≡◌, refl, sym, ap, ◌∙◌}
use mathlib.Core.Bool.{true, false}
use mathlib.Core.List.{List, [], ◌∷◌, ◌++◌, map, map-append, append-nil, append_assoc}
use native.Mathlib.Omega.{arith}
use lib.Dec.{eqb}
use lib.ListN.{length}
use borrow.Author.Tests.{eqb-true, eqb-false}
use Rattle.wire.specs.Bytes.{Bytes}
use Rattle.wire.specs.Puts.{Puts}
use Rattle.wire.specs.declared.Writer.{Writer}
use Rattle.wire.proofs.Puts.{then, Rest, rest_step, rest_none}
use Rattle.token.specs.Kind.{k_right_curly}
use Rattle.token.specs.Places.{tok_at, next_at, tokens_from, Wf}
use Rattle.token.proofs.Walk.{tokens_step}
use Rattle.schema.specs.Ast.{Declaration}
use Rattle.schema.specs.Encode.{encode_declarations}
use Rattle.grammar.specs.Tree.{DeclarationTree}
use Rattle.grammar.specs.Meaning.{field_of, declaration_of}
use Rattle.grammar.specs.Error.{kind_at}
use Rattle.grammar.specs.Reading.{skip, is_end, Reading, join, parse_deleted, parse_declarations}
use Rattle.grammar.proofs.Rules.{both_nil}
use Rattle.grammar.proofs.Fields.{field_sound}
use Rattle.grammar.proofs.Declarations.{head_sound}
use Rattle.grammar.proofs.Eats.{head_eats}
use Rattle.grammar.proofs.Left.{fields_left, declaration_left}
use Rattle.grammar.proofs.Fuel.{fields_end, fields_next, declarations_next}
use Rattle.parser.specs.Trees.{field_at, head_at}
use Rattle.parser.specs.Steps.{ahead, Stands, Stepped, FieldPassed, HeadPassed}
use Rattle.parser.specs.declared.Cursor.{Cursor}
use Rattle.parser.specs.declared.FieldPlaces.{FieldPlaces}
use Rattle.parser.specs.declared.HeadPlaces.{HeadPlaces}
use Rattle.parser.proofs.Laws.{inside, none_left}
use Rattle.records.specs.Pieces.{encode_field, encode_head}
use Rattle.records.specs.Here.{FieldHere, HeadHere}
use Rattle.places.specs.Imports.{Room}
use Rattle.imports.specs.Imports.{last_end, Clear}
use Rattle.emit.specs.Emits.{Emits, Before, fields_from, fields_bytes, declaration_from, declarations_from, declarations_bytes, is_other}
use Rattle.emit.specs.Indices.{deleted_bytes}
use Rattle.emit.proofs.Bodies.{Body, body}

-- Fields.

-- the fields from c on are still to be put
pub record Fielding (t : Bytes) (from : Cursor) (w₀ w : Writer) (c : Cursor) : Type 0 where
  pub clear : Clear t c (fields_from t c)
  pub left : Rest w (fields_bytes (fields_from t c).value) w₀ (fields_bytes (fields_from t from).value)
  pub rest : (fields_from t c).rest ≡ (fields_from t from).rest

pub field_here : {t : Bytes} {c : Cursor} {f : FieldPlaces} {after : Cursor} → FieldPassed t c f after → FieldHere t f
field_here {t} {c} p = record { stands = p.stands; wf = (field_sound (ahead t c) p.read.gives).1; first = p.first }

module _ {t : Bytes} {from : Cursor} {w₀ w : Writer} {c : Cursor} (s : Fielding t from w₀ w c) where
  pub fields_put : is_end (ahead t c) ≡ true → Emits t w₀ fields_bytes (fields_from t from) w c
  fields_put e =
      let f = fields_end (last_end t) (ahead t c) e in
      record { puts = rest_none s.left (rw f); rest = sym (ap (λ (R : Reading _). R.rest) f) ∙ s.rest; wf = s.clear.wf }

  module _ (e : is_end (ahead t c) ≡ false) where
    pub field_put : {f : FieldPlaces} {after : Cursor} {w' : Writer} → FieldPassed t c f after → Puts w (encode_field (field_of (field_at t f))) w'
        → Fielding t from w₀ w' after
    field_put p q =
        let f = fields_next (last_end t) (ahead t c) e p.read.gives in
        record { clear = record { wf = p.read.wf; errors = rw f at s.clear.errors }; left = rest_step q s.left (rw f); rest = rw f at s.rest }

-- The first `}`.
pub record Finding (t : Bytes) (from c : Cursor) : Type 0 where
  pub wf : Wf t c.at
  pub same : skip is_other (ahead t c) ≡ skip is_other (ahead t from)

module _ {t : Bytes} {from c : Cursor} (s : Finding t from c) where
  stops : skip is_other (ahead t c) ≡ ahead t c → Before t (skip is_other (ahead t from)) c
  stops e = record { tokens = sym e ∙ s.same; wf = s.wf }

  pub found_end : kind_at (ahead t c) ≡ 0 → Before t (skip is_other (ahead t from)) c
  found_end k = stops (rw (none_left t c.at s.wf k))

-- One declaration.
module _ {t : Bytes} {c : Cursor} (k : Clear t c (declaration_from t c)) where
  module _ {h : HeadPlaces} {from : Cursor} (p : HeadPassed t c h from) where
    parsed : Body (last_end t) (head_at t h) (ahead t from) (declaration_from t c)
    parsed = body (last_end t) (ahead t c) p.read.gives k.errors

    pub head_here : HeadHere t h
    head_here = record { stands = p.stands; wf = (head_sound (ahead t c) p.read.gives).1; first = p.first }

    pub body_clear : Clear t from (fields_from t from)
    body_clear = record { wf = p.read.wf; errors = parsed.fields }

    pub body_room : {items spare : List ℕ} {w w' : Writer} {d : Cursor} → Room (ahead t c) items spare → Emits t w fields_bytes (fields_from t from) w' d
        → Room (ahead t d) items spare
    body_room {d = d} m e =
        let l : length (ahead t d) ≤ length (ahead t c) =
        rw e.rest
        (omega (
          arith,
          ap length (head_sound (ahead t c) p.read.gives).0,
          head_eats (head_at t h) (ahead t from),
          fields_left (length (ahead t from)) (last_end t) (length (ahead t from)) (ahead t from) (omega arith),
        )) in
        record { list = omega (arith, l, m.list); work = omega (arith, l, m.work) }

    module _ {right : Cursor} (b : Before t (skip is_other (ahead t from)) right) where
      tokens : ahead t right ≡ parsed.right ∷ (declaration_from t c).rest
      tokens = b.tokens ∙ parsed.first

      pub right_kind : kind_at (ahead t right) ≡ k_right_curly
      right_kind = ap kind_at tokens ∙ parsed.kind

      pub right_stands : Stands t right.at
      right_stands = (b.wf, inside t right.at (omega (arith, right_kind)))

      first : tok_at t right.at ∷ tokens_from t (next_at t right.at) ≡ parsed.right ∷ (declaration_from t c).rest
      first = sym (tokens_step t right.at right_stands.1) ∙ tokens

      pub declaration_put : {w w₁ w₂ w₃ : Writer} {d next : Cursor} → Puts w (encode_head (head_at t h) (tok_at t right.at)) w₁
          → Emits t w₁ fields_bytes (fields_from t from) w₂ d → Puts w₂ (deleted_bytes (parse_deleted (ahead t d)).value) w₃ → Stepped t right next
          → Emits t w declarations_bytes (declaration_from t c) w₃ next
      declaration_put p e g n =
          let q = first in
          let z : tok_at t right.at ≡ parsed.right = cc in
          let r : tokens_from t (next_at t right.at) ≡ (declaration_from t c).rest = cc in
          record { puts = rw (parsed.value, append-nil, ← z) (then (then p e.puts) (rw e.rest at g)); rest = rw n.place r; wf = n.wf }

-- Declarations.
encode_append : (xs ys : List Declaration) → encode_declarations (xs ++ ys) ≡ encode_declarations xs ++ encode_declarations ys
encode_append [] ys = refl
encode_append (x ∷ xs) ys = rw (encode_append xs ys) (simp append_assoc)

bytes-append : (xs ys : List DeclarationTree) → declarations_bytes (xs ++ ys) ≡ declarations_bytes xs ++ declarations_bytes ys
bytes-append xs ys = rw (map-append) (encode_append (map declaration_of xs) (map declaration_of ys))

-- the declarations from c on are still to be put
pub record Declaring (t : Bytes) (from : Cursor) (w₀ w : Writer) (items spare : List ℕ) (c : Cursor) : Type 0 where
  pub clear : Clear t c (declarations_from t c)
  pub left : Rest w (declarations_bytes (declarations_from t c).value) w₀ (declarations_bytes (declarations_from t from).value)
  pub room : Room (ahead t c) items spare

module _ {t : Bytes} {from : Cursor} {w₀ w : Writer} {items spare : List ℕ} {c : Cursor} (s : Declaring t from w₀ w items spare c) where
  pub declarations_put : eqb (kind_at (ahead t c)) 0 ≡ true → Puts w₀ (declarations_bytes (declarations_from t from).value) w
  declarations_put k = rest_none s.left (rw (none_left t c.at s.clear.wf (eqb-true _ _ k)))

  module _ (k : eqb (kind_at (ahead t c)) 0 ≡ false) where
    first_of : ahead t c ≡ tok_at t c.at ∷ tokens_from t (next_at t c.at)
    first_of = tokens_step t c.at (inside t c.at (omega (arith, eqb-false _ _ k)))

    whole : declarations_from t c ≡ join (declaration_from t c) (parse_declarations (length (declaration_from t c).rest) (last_end t) (declaration_from t c).rest)
    whole = rw first_of (declarations_next (last_end t) (tok_at t c.at) (tokens_from t (next_at t c.at)))

    none_told : ((declaration_from t c).errors ≡ []) × ((parse_declarations (length (declaration_from t c).rest) (last_end t) (declaration_from t c).rest).errors
        ≡ [])
    none_told = both_nil (declaration_from t c).errors _ (rw whole at s.clear.errors)

    pub declaration_clear : Clear t c (declaration_from t c)
    declaration_clear = record { wf = s.clear.wf; errors = none_told.0 }

    module _ {w' : Writer} {d : Cursor} (e : Emits t w declarations_bytes (declaration_from t c) w' d) where
      pub shrinks : length (ahead t d) < length (ahead t c)
      shrinks = rw (e.rest, first_of) (omega (arith, declaration_left (last_end t) (tok_at t c.at) (tokens_from t (next_at t c.at))))

      pub declare_on : {items' spare' : List ℕ} → length items' ≡ length items → length spare' ≡ length spare → Declaring t from w₀ w' items' spare' d
      declare_on p q =
          record {
            clear = record { wf = e.wf; errors = rw e.rest none_told.1 };
            left = rest_step e.puts s.left (rw (whole, e.rest) (bytes-append (declaration_from t c).value _));
            room = record { list = omega (arith, shrinks, s.room.list, p); work = omega (arith, shrinks, s.room.work, q) };
          }
