-- A declaration whose reading has no errors, part by part.
use Prim.Native.Nat.{ℕ}
use mathlib.Core.Path.{◌≡◌, refl, ap, ◌∙◌}
use mathlib.Core.Option.{Option}
use mathlib.Core.List.{List, [], ◌∷◌, ◌++◌}
use lib.ListN.{length}
use Rattle.token.specs.Token.{Token}
use Rattle.token.specs.Kind.{k_right_curly}
use Rattle.grammar.specs.Tree.{FieldTree, DeletedPart, HeadTree, DeclarationTree, Is, optionally, each, y_field, y_deleted}
use Rattle.grammar.specs.Reading.{Result, ok, fail, is, consume, skip, Reading, parse_fields, parse_deleted, parse_head, parse_right, parse_declaration}
use Rattle.grammar.proofs.Rules.{cons≢nil, both_nil, token_sound}
use Rattle.grammar.proofs.Fields.{fields_sound}
use Rattle.grammar.proofs.Declarations.{deleted_sound}
use Rattle.emit.specs.Emits.{is_other}
use Rattle.emit.proofs.Skips.{skip_body}

-- after its head, from the tokens ts on, R is the reading of a declaration
pub record Body (end : ℕ) (h : HeadTree) (ts : List Token) (R : Reading (List DeclarationTree)) : Type 0 where
  pub fields : (parse_fields (length ts) end ts).errors ≡ []
  pub right : Token
  pub kind : Is k_right_curly right
  pub value : R.value ≡ record {
    head = h;
    fields = (parse_fields (length ts) end ts).value;
    deleted = (parse_deleted (parse_fields (length ts) end ts).rest).value;
    right = right;
  } ∷ []
  pub first : skip is_other ts ≡ right ∷ R.rest

pub body : (end : ℕ) (ts : List Token) {h : HeadTree} {r : List Token} → parse_head ts ≡ ok h r → (parse_declaration end ts).errors ≡ []
    → Body end h r (parse_declaration end ts)
body end ts {h} {r} p e = rw (p, parse_declaration) (go (consume 5 (is k_right_curly) d.rest) refl (rw (p, parse_declaration) at e))
  where
    fs : Reading (List FieldTree)
    fs = parse_fields (length r) end r

    d : Reading (Option DeletedPart)
    d = parse_deleted fs.rest

    go : (m : Result Token) → consume 5 (is k_right_curly) d.rest ≡ m → (parse_right end h fs d m).errors ≡ [] → Body end h r (parse_right end h fs d m)
    go (fail n s) q e = absurd (cons≢nil (both_nil (fs.errors ++ d.errors) _ e).1)
    go (ok z s) q e =
        let i = both_nil fs.errors d.errors e in
        let f = fields_sound (length r) end r i.0 in
        let g = deleted_sound fs.rest in
        let c = token_sound 5 k_right_curly d.rest q in
        record {
          fields = i.0;
          right = z;
          kind = c.1;
          value = refl;
          first = ap (skip is_other) (f.0 ∙ ap (each y_field fs.value) (g.read.0 ∙ ap (optionally y_deleted d.value) c.0))
              ∙ skip_body fs.value d.value z s f.1 g.read.1 c.1;
        }
