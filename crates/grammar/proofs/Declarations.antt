-- Declarations: what is read without an error are the derivation trees of declarations, and each of those is read, with just the errors of its
-- deleted indices.
use Prim.Native.Nat.{ℕ, zero, suc, ◌≤◌, ◌<◌}
use mathlib.Core.Path.{◌≡◌, refl, ap, sym, ◌∙◌}
use mathlib.Core.Bool.{Bool, true, false}
use mathlib.Core.Option.{Option, none, some}
use mathlib.Core.List.{List, [], ◌∷◌, ◌++◌}
use native.Mathlib.Omega.{arith}
use lib.Dec.{eqb}
use lib.ListN.{length}
use borrow.Author.Tests.{eqb-true, eq-eqb}
use Rattle.token.specs.Token.{Token}
use Rattle.token.specs.Kind.{is_keyword, k_comment, k_deleted, k_identifier, k_integer, k_left_curly, k_right_curly}
use Rattle.grammar.specs.Tree.{FieldTree, DeletedPart, HeadTree, DeclarationTree, optionally, each, y_field, y_deleted}
use Rattle.grammar.specs.Tree.{y_head, y_declaration, Is, Passes, IfAny, All, WfField, WfDeleted, WfHead, WfDeclaration}
use Rattle.grammar.specs.Condition.{deleted_errors, declarations_errors}
use Rattle.grammar.specs.Reading.{Result, ok, fail, is, consume, optional, Reading, is_end, parse_fields, parse_deleted}
use Rattle.grammar.specs.Reading.{parse_keyword, name_number, parse_head, parse_right, parse_declaration, join, parse_declarations}
use Rattle.grammar.proofs.Rules.{Read, fail≢ok, cons≢nil, both_nil, along, and_then_ok, not_kind, consume_sound}
use Rattle.grammar.proofs.Rules.{consume_complete, token_sound, token_complete, optional_token_sound}
use Rattle.grammar.proofs.Rules.{optional_token_complete, passes_is, is_passes, front_sound, front_complete, read_join}
use Rattle.grammar.proofs.Fields.{fields_sound, fields_complete}
use Rattle.grammar.proofs.Eats.{declaration_eats}

pub record Deleted (ts : List Token) (p : Reading (Option DeletedPart)) : Type 0 where
  pub read : Read (optionally y_deleted) (IfAny WfDeleted) ts p.value p.rest
  pub errors : p.errors ≡ deleted_errors p.value

pub deleted_sound : (ts : List Token) → Deleted ts (parse_deleted ts)
deleted_sound [] = record { read = (refl, tt); errors = refl }
deleted_sound (t ∷ ts) = go (eqb t.kind k_deleted) refl
  where
    go : (b : Bool) → eqb t.kind k_deleted ≡ b → Deleted (t ∷ ts) (parse_deleted (t ∷ ts))
    go false e = rw (e, parse_deleted) (record { read = (refl, tt); errors = refl })
    go true e =
        let q = front_sound k_integer ts in
        rw (e, parse_deleted)
        (record { read = (ap (◌∷◌ t) q.0, record { deleted = eqb-true t.kind k_deleted e; indices = q.1 }); errors = refl })

-- before `}`
deleted_complete : (o : Option DeletedPart) (z : Token) (r : List Token) → IfAny WfDeleted o → Is k_right_curly z
    → parse_deleted (optionally y_deleted o (z ∷ r)) ≡ record { errors = deleted_errors o; value = o; rest = z ∷ r }
deleted_complete none z r w h = let f : eqb z.kind k_deleted ≡ false = rw h in rw (f, parse_deleted)
deleted_complete (some p) z r w h =
    let q = front_complete k_integer p.indices (z ∷ r) w.indices (rw h) in
    rw (eq-eqb p.deleted.kind k_deleted w.deleted, parse_deleted) (rw (q.0, q.1))

deleted_ends : (o : Option DeletedPart) (z : Token) (r : List Token) → IfAny WfDeleted o → Is k_right_curly z
    → is_end (optionally y_deleted o (z ∷ r)) ≡ true
deleted_ends none z r w h = rw h
deleted_ends (some p) z r w h = rw w.deleted

keyword_sound : (c : Option Token) (ts : List Token) {k : Token} {r : List Token} → parse_keyword c ts ≡ ok k r → Read ◌∷◌ (Passes is_keyword) ts k r
keyword_sound none ts h = consume_sound 1 is_keyword ts h
keyword_sound (some c) [] h = absurd (fail≢ok h)
keyword_sound (some c) (t ∷ ts) h = consume_sound 1 is_keyword (t ∷ ts) h

keyword_complete : (c : Option Token) (k : Token) (r : List Token) → Passes is_keyword k → parse_keyword c (k ∷ r) ≡ ok k r
keyword_complete none k r w = consume_complete 1 is_keyword k r w
keyword_complete (some c) k r w = consume_complete 1 is_keyword k r w

pub head_sound : (ts : List Token) {h : HeadTree} {r : List Token} → parse_head ts ≡ ok h r → Read y_head WfHead ts h r
head_sound ts h =
    and_then_ok (optional (is k_comment) ok ts) _ h λ c ts₁ p₁ h₁.
    and_then_ok (parse_keyword c ts₁) _ h₁ λ k ts₂ p₂ h₂.
    and_then_ok (consume (name_number k) (is k_identifier) ts₂) _ h₂ λ n ts₃ p₃ h₃.
    and_then_ok (consume 4 (is k_left_curly) ts₃) _ h₃ λ l ts₄ p₄ h₄.
    let q₁ = optional_token_sound (is k_comment) ts p₁ in
    let q₂ = keyword_sound c ts₁ p₂ in
    let q₃ = token_sound (name_number k) k_identifier ts₂ p₃ in
    let q₄ = token_sound 4 k_left_curly ts₃ p₄ in
    along (Read y_head WfHead ts) h₄ (cc, record { comment = is_passes k_comment c q₁.1; keyword = q₂.1; name = q₃.1; left = q₄.1 })

head_complete : (h : HeadTree) (r : List Token) → WfHead h → parse_head (y_head h r) ≡ ok h r
head_complete h r w =
    rw (
      optional_token_complete (is k_comment) h.comment _ (passes_is k_comment h.comment w.comment)
          (not_kind is_keyword h.keyword.kind k_comment w.keyword refl),
      parse_head,
    )
    (rw (keyword_complete h.comment h.keyword _ w.keyword)
    (rw (token_complete (name_number h.keyword) k_identifier h.name _ w.name) (rw (token_complete 4 k_left_curly h.left r w.left))))

-- what a reading of declarations without errors shows
pub record Declared (ts : List Token) (p : Reading (List DeclarationTree)) : Type 0 where
  pub read : Read (each y_declaration) (All WfDeclaration) ts p.value p.rest
  pub errors : declarations_errors p.value ≡ []

right_sound : (end : ℕ) (h : HeadTree) (ts : List Token) (fs : Reading (List FieldTree)) (d : Reading (Option DeletedPart)) (m : Result Token)
    → WfHead h → (fs.errors ≡ [] → Read (each y_field) (All WfField) ts fs.value fs.rest) → Deleted fs.rest d
    → consume 5 (is k_right_curly) d.rest ≡ m
    → (parse_right end h fs d m).errors ≡ [] → Declared (y_head h ts) (parse_right end h fs d m)
right_sound end h ts fs d (fail n r) w a b p e = absurd (cons≢nil (both_nil (fs.errors ++ d.errors) _ e).1)
right_sound end h ts fs d (ok z r) w a b p e =
    let i = both_nil fs.errors d.errors e in
    let q = a i.0 in
    let c = token_sound 5 k_right_curly d.rest p in
    let none-twice : deleted_errors d.value ≡ [] = sym b.errors ∙ i.1 in
    record {
      read = (
        ap (y_head h) (q.0 ∙ ap (each y_field fs.value) (b.read.0 ∙ ap (optionally y_deleted d.value) c.0)),
        (record { head = w; fields = q.1; deleted = b.read.1; right = c.1 }, tt),
      );
      errors = rw none-twice;
    }

pub declaration_sound : (end : ℕ) (ts : List Token) → (parse_declaration end ts).errors ≡ [] → Declared ts (parse_declaration end ts)
declaration_sound end ts e = go (parse_head ts) refl
  where
    go : (m : Result HeadTree) → parse_head ts ≡ m → Declared ts (parse_declaration end ts)
    go (fail n r) p = absurd (cons≢nil (rw (p, parse_declaration) at e))
    go (ok h r) p =
        let q = head_sound ts p in
        let fs = parse_fields (length r) end r in
        let d = parse_deleted fs.rest in
        rw (p, parse_declaration)
        (rw q.0
        (right_sound end h r fs d (consume 5 (is k_right_curly) d.rest) q.1 (fields_sound (length r) end r) (deleted_sound fs.rest) refl
        (rw (p, parse_declaration) at e)))

pub declaration_complete : (end : ℕ) (d : DeclarationTree) (r : List Token) → WfDeclaration d
    → parse_declaration end (y_declaration d r) ≡ record { errors = deleted_errors d.deleted; value = d ∷ []; rest = r }
declaration_complete end d r w =
    let after = optionally y_deleted d.deleted (d.right ∷ r) in
    let inside = each y_field d.fields after in
    rw (head_complete d.head inside w.head, parse_declaration)
    (rw (fields_complete d.fields after w.fields (deleted_ends d.deleted d.right r w.deleted w.right) (length inside) end (omega arith))
    (rw (deleted_complete d.deleted d.right r w.deleted w.right) (rw (token_complete 5 k_right_curly d.right r w.right))))

none-append : (ds es : List DeclarationTree) → declarations_errors ds ≡ [] → declarations_errors es ≡ [] → declarations_errors (ds ++ es) ≡ []
none-append [] es p q = q
none-append (d ∷ ds) es p q = let i = both_nil (deleted_errors d.deleted) (declarations_errors ds) p in rw i.0 (none-append ds es i.1 q)

declared_join : (ts : List Token) (p q : Reading (List DeclarationTree)) → Declared ts p → Declared p.rest q → Declared ts (join p q)
declared_join ts p q a b =
    record {
      read = read_join y_declaration WfDeclaration p.value q.value ts p.rest q.rest a.read b.read;
      errors = none-append p.value q.value a.errors b.errors;
    }

pub declarations_sound : (k end : ℕ) (ts : List Token) → (parse_declarations k end ts).errors ≡ [] → Declared ts (parse_declarations k end ts)
declarations_sound zero end ts e = record { read = (refl, tt); errors = refl }
declarations_sound (suc k) end [] e = record { read = (refl, tt); errors = refl }
declarations_sound (suc k) end (t ∷ ts) e =
    let d = parse_declaration end (t ∷ ts) in
    let q = parse_declarations k end d.rest in
    let i = both_nil d.errors q.errors e in
    declared_join (t ∷ ts) d q (declaration_sound end (t ∷ ts) i.0) (declarations_sound k end d.rest i.1)

-- where a token stands, a declaration and then the others
declarations_step : (k end : ℕ) (ts : List Token) (p : Reading (List DeclarationTree)) → parse_declaration end ts ≡ p → 0 < length ts
    → parse_declarations (suc k) end ts ≡ join p (parse_declarations k end p.rest)
declarations_step k end [] p e l = absurd (omega arith)
declarations_step k end (t ∷ ts) p e l = rw (e, parse_declarations)

pub declarations_complete : (ds : List DeclarationTree) → All WfDeclaration ds → (k end : ℕ) → length (each y_declaration ds []) ≤ k
    → parse_declarations k end (each y_declaration ds []) ≡ record { errors = declarations_errors ds; value = ds; rest = [] }
declarations_complete [] w zero end l = refl
declarations_complete [] w (suc k) end l = refl
declarations_complete (d ∷ ds) w zero end l = absurd (omega (arith, declaration_eats d (each y_declaration ds [])))
declarations_complete (d ∷ ds) w (suc k) end l =
    let rest = each y_declaration ds [] in
    let eats = declaration_eats d rest in
    declarations_step k end (y_declaration d rest) _ (declaration_complete end d rest w.0) (omega arith)
    ∙ rw (declarations_complete ds w.1 k end (omega arith))
