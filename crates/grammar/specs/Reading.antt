-- Reading with recovery, as document 01 ("Errors collected") and parser.rs say it, from the list of remaining tokens into derivation trees.
use Rattle.std.specs.Prelude.{ℕ, zero, suc, ◌+◌, Bool, true, false, ◌||◌, ◌&&◌, not, List, [], ◌∷◌, ◌++◌, eqb, ltb, length}
use Rattle.std.proofs.Math.Option.{Option, none, some}
use Rattle.wire.specs.Pick.{pick}
use Rattle.token.specs.Token.{Token, end_of}
use Rattle.token.specs.Kind.{is_plain, is_rule, is_keyword, k_as, k_colon, k_comment, k_deleted, k_dot, k_equals, k_identifier}
use Rattle.token.specs.Kind.{k_import, k_integer, k_left_curly, k_left_square, k_path, k_right_curly, k_right_square, k_struct}
use Rattle.schema.specs.Ast.{Schema}
use Rattle.grammar.specs.Tree.{TypeTree, array, plain, single, dotted, TypePart, FieldTree, DeletedPart}
use Rattle.grammar.specs.Tree.{HeadTree, DeclarationTree, AliasPart, ImportTree, SchemaTree}
use Rattle.grammar.specs.Error.{Error, error_at}
use Rattle.grammar.specs.Condition.{import_errors, index_errors}
use Rattle.grammar.specs.Meaning.{schema_of}

-- What a rule of the grammar gives: a value and the tokens after it, or an error's number and the tokens from the offending one on.
pub data Result (A : Type 0) : Type 0 where
  ok : A → List Token → Result A
  fail : ℕ → List Token → Result A

module _ {A B : Type 0} where
  abbrev pub and_then : Result A → (A → List Token → Result B) → Result B
  and_then (ok a r) f = f a r
  and_then (fail n r) f = fail n r

abbrev pub is : ℕ → ℕ → Bool
is k m = eqb m k

-- one token whose kind passes the test, else the error
abbrev pub consume : ℕ → (ℕ → Bool) → List Token → Result Token
consume number test [] = fail number []
consume number test (t ∷ ts) = pick (test t.kind) (ok t ts) (fail number (t ∷ ts))

-- what begins with a token whose kind passes the test, where one stands
module _ {A : Type 0} where
  abbrev pub optional : (ℕ → Bool) → (Token → List Token → Result A) → List Token → Result (Option A)
  optional test rule [] = ok none []
  optional test rule (t ∷ ts) =
      elim (test t.kind) [ true ↦ and_then (rule t ts) λ x r. ok (some x) r | false ↦ ok none (t ∷ ts) ]

-- the tokens at the front whose kinds pass the test, and those from the first other one on
abbrev pub front : (ℕ → Bool) → List Token → List Token
front test [] = []
front test (t ∷ ts) = elim (test t.kind) [ true ↦ t ∷ front test ts | false ↦ [] ]

abbrev pub skip : (ℕ → Bool) → List Token → List Token
skip test [] = []
skip test (t ∷ ts) = elim (test t.kind) [ true ↦ skip test ts | false ↦ t ∷ ts ]

-- Types.

-- at least three tokens remain and the second is `.`: these are the tokens after the first
abbrev pub is_dotted : List Token → Bool
is_dotted [] = false
is_dotted (d ∷ []) = false
is_dotted (d ∷ n ∷ ts) = eqb d.kind k_dot

-- the first must be an Identifier (10) and the third too (9)
abbrev pub parse_dotted : List Token → Result TypeTree
parse_dotted ts =
    and_then (consume 10 (is k_identifier) ts) λ i ts₁.
    and_then (consume 9 (is k_dot) ts₁) λ d ts₂.
    and_then (consume 9 (is k_identifier) ts₂) λ n ts₃.
    ok (dotted i d n) ts₃

abbrev pub parse_single : List Token → Result TypeTree
parse_single ts =
    and_then (consume 9 (is k_identifier) ts) λ n ts₁.
    ok (single n) ts₁

abbrev pub parse_closing : Token → Result TypeTree → Result TypeTree
parse_closing l inner =
    and_then inner λ y ts₁.
    and_then (consume 11 (is k_right_square) ts₁) λ r ts₂.
    ok (array l y r) ts₂

abbrev pub parse_type : List Token → Result TypeTree
parse_type [] = fail 9 []
parse_type (t ∷ ts) =
    elim (eqb t.kind k_left_square) [
      | true ↦ parse_closing t (parse_type ts)
      | false ↦ elim (is_plain t.kind) [
        | true ↦ ok (plain t) ts
        | false ↦ elim (is_dotted ts) [ true ↦ parse_dotted (t ∷ ts) | false ↦ parse_single (t ∷ ts) ]
      ]
    ]

abbrev pub parse_type_part : Token → List Token → Result TypePart
parse_type_part c ts =
    and_then (parse_type ts) λ y ts₁.
    ok (record { colon = c; type = y }) ts₁

-- Fields.
abbrev pub parse_field : List Token → Result FieldTree
parse_field ts =
    and_then (optional (is k_comment) ok ts) λ c ts₁.
    and_then (optional is_rule ok ts₁) λ x ts₂.
    and_then (consume 8 (is k_identifier) ts₂) λ n ts₃.
    and_then (optional (is k_colon) parse_type_part ts₃) λ y ts₄.
    and_then (consume 12 (is k_equals) ts₄) λ e ts₅.
    and_then (consume 13 (is k_integer) ts₅) λ i ts₆.
    ok (record { comment = c; rule = x; name = n; type = y; equals = e; index = i }) ts₆

-- What reading a part of the schema gives: the errors in order, a value that is the part's tree where there are none, and the tokens after it.
-- `end` is the last token's end. A number of steps that bounds a loop stands first: the number of tokens is enough (proofs/Fuel).
pub record Reading (A : Type 0) : Type 0 where
  pub errors : List Error
  pub value : A
  pub rest : List Token

module _ {A : Type 0} where
  abbrev pub nothing : List Token → Reading (List A)
  nothing ts = record { errors = []; value = []; rest = ts }

  -- one part, then the others
  abbrev pub join : Reading (List A) → Reading (List A) → Reading (List A)
  join p q = record { errors = p.errors ++ q.errors; value = p.value ++ q.value; rest = q.rest }

-- the fields end here
abbrev pub is_end : List Token → Bool
is_end [] = true
is_end (t ∷ ts) = eqb t.kind k_deleted || eqb t.kind k_right_curly

-- a failed field skips from the offending token to the first `}` or the end
abbrev pub parse_fields : ℕ → ℕ → List Token → Reading (List FieldTree)
parse_fields zero end ts = nothing ts
parse_fields (suc k) end ts =
    elim (is_end ts) [
      | true ↦ nothing ts
      | false ↦ elim (parse_field ts) [
        | ok f r ↦ join (record { errors = []; value = f ∷ []; rest = r }) (parse_fields k end r)
        | fail n r ↦
            record { errors = error_at end n r ∷ []; value = []; rest = skip (λ k. not (is k_right_curly k)) r }
      ]
    ]

abbrev pub parse_deleted : List Token → Reading (Option DeletedPart)
parse_deleted [] = record { errors = []; value = none; rest = [] }
parse_deleted (t ∷ ts) =
    elim (eqb t.kind k_deleted) [
      | false ↦ record { errors = []; value = none; rest = t ∷ ts }
      | true ↦
          record {
            errors = index_errors [] (front (is k_integer) ts);
            value = some (record { deleted = t; indices = front (is k_integer) ts });
            rest = skip (is k_integer) ts;
          }
    ]

-- Declarations. A comment that ends the list where a declaration is due is error 18, at the comment.
abbrev pub parse_keyword : Option Token → List Token → Result Token
parse_keyword none ts = consume 1 is_keyword ts
parse_keyword (some c) [] = fail 18 (c ∷ [])
parse_keyword (some c) (t ∷ ts) = consume 1 is_keyword (t ∷ ts)

-- 2 struct name, 3 choice name
abbrev pub name_number : Token → ℕ
name_number keyword = pick (eqb keyword.kind k_struct) 2 3

abbrev pub parse_head : List Token → Result HeadTree
parse_head ts =
    and_then (optional (is k_comment) ok ts) λ c ts₁.
    and_then (parse_keyword c ts₁) λ k ts₂.
    and_then (consume (name_number k) (is k_identifier) ts₂) λ n ts₃.
    and_then (consume 4 (is k_left_curly) ts₃) λ l ts₄.
    ok (record { comment = c; keyword = k; name = n; left = l }) ts₄

-- what fails here, with 1 to 5 or 18, ends the parse: no token is left to read
abbrev pub stop : ℕ → List Error → ℕ → List Token → Reading (List DeclarationTree)
stop end errors number ts = record { errors = errors ++ (error_at end number ts ∷ []); value = []; rest = [] }

abbrev pub parse_right : ℕ → HeadTree → Reading (List FieldTree) → Reading (Option DeletedPart) → Result Token → Reading (List DeclarationTree)
parse_right end h fs d (ok z r) =
    record {
      errors = fs.errors ++ d.errors;
      value = record { head = h; fields = fs.value; deleted = d.value; right = z } ∷ [];
      rest = r;
    }
parse_right end h fs d (fail n r) = stop end (fs.errors ++ d.errors) n r

abbrev pub parse_body : ℕ → HeadTree → List Token → Reading (List DeclarationTree)
parse_body end h ts =
    let fs = parse_fields (length ts) end ts in
    let d = parse_deleted fs.rest in
    parse_right end h fs d (consume 5 (is k_right_curly) d.rest)

abbrev pub parse_declaration : ℕ → List Token → Reading (List DeclarationTree)
parse_declaration end ts = elim (parse_head ts) [ ok h r ↦ parse_body end h r | fail n r ↦ stop end [] n r ]

abbrev pub parse_declarations : ℕ → ℕ → List Token → Reading (List DeclarationTree)
parse_declarations zero end ts = nothing ts
parse_declarations (suc k) end [] = nothing []
parse_declarations (suc k) end (t ∷ ts) =
    let d = parse_declaration end (t ∷ ts) in
    join d (parse_declarations k end d.rest)

-- Imports.
abbrev pub parse_alias : Token → List Token → Result AliasPart
parse_alias a ts =
    and_then (consume 7 (is k_identifier) ts) λ n ts₁.
    ok (record { keyword = a; name = n }) ts₁

-- what follows `import`
abbrev pub parse_import : Token → List Token → Result ImportTree
parse_import i ts =
    and_then (consume 6 (is k_path) ts) λ p ts₁.
    and_then (optional (is k_as) parse_alias ts₁) λ a ts₂.
    ok (record { keyword = i; path = p; alias = a }) ts₂

-- a failed import is dropped, and import reading goes on where it stopped
abbrev pub parse_imports : ℕ → ℕ → List ImportTree → List Token → Reading (List ImportTree)
parse_imports zero end before ts = nothing ts
parse_imports (suc k) end before [] = nothing []
parse_imports (suc k) end before (t ∷ ts) =
    elim (eqb t.kind k_import) [
      | false ↦ nothing (t ∷ ts)
      | true ↦ elim (parse_import t ts) [
        | ok i r ↦ join (record { errors = import_errors before i; value = i ∷ []; rest = r }) (parse_imports k end (i ∷ before) r)
        | fail n r ↦ join (record { errors = error_at end n r ∷ []; value = []; rest = r }) (parse_imports k end before r)
      ]
    ]

-- The schema.

-- a Comment as first token, unless the next is `struct` or `choice` and near
abbrev pub is_opening : List Token → Bool
is_opening [] = false
is_opening (c ∷ []) = eqb c.kind k_comment
is_opening (c ∷ t ∷ ts) = eqb c.kind k_comment && (not (is_keyword t.kind) || ltb (c.end + 1) t.start)

abbrev pub parse_opening : List Token → Reading (Option Token)
parse_opening [] = record { errors = []; value = none; rest = [] }
parse_opening (t ∷ ts) =
    elim (is_opening (t ∷ ts)) [
      | true ↦ record { errors = []; value = some t; rest = ts }
      | false ↦ record { errors = []; value = none; rest = t ∷ ts }
    ]

-- 17 token after the schema
abbrev pub parse_end : List Error → List Token → List Error
parse_end [] [] = []
parse_end [] (t ∷ ts) = error_at 0 17 (t ∷ ts) ∷ []
parse_end (e ∷ es) ts = e ∷ es

abbrev pub parse_schema : List Token → Reading SchemaTree
parse_schema ts =
    let end = end_of 0 ts in
    let c = parse_opening ts in
    let is = parse_imports (length c.rest) end [] c.rest in
    let ds = parse_declarations (length is.rest) end is.rest in
    record {
      errors = parse_end (is.errors ++ ds.errors) ds.rest;
      value = record { comment = c.value; imports = is.value; declarations = ds.value };
      rest = ds.rest;
    }

-- the schema where there are no errors, else the errors
pub data Outcome : Type 0 where
  schema : Schema → Outcome
  errors : List Error → Outcome

abbrev pub outcome_of : Reading SchemaTree → Outcome
outcome_of p = elim p.errors [ [] ↦ schema (schema_of p.value) | e ∷ es ↦ errors (e ∷ es) ]

unfoldable pub parse : List Token → Outcome
parse ts = outcome_of (parse_schema ts)
