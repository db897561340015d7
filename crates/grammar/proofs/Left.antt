-- What reading leaves is never longer than what it was given, also where it fails or recovers.
use Prim.Native.Nat.{ℕ, zero, suc, ◌≤◌}
use mathlib.Core.Path.{◌≡◌, refl, ap}
use mathlib.Core.Bool.{Bool, true, false}
use mathlib.Core.Option.{Option}
use mathlib.Core.List.{List, [], ◌∷◌}
use native.Mathlib.Omega.{arith}
use lib.Dec.{eqb}
use lib.ListN.{length}
use Rattle.wire.specs.Pick.{pick}
use Rattle.token.specs.Token.{Token}
use Rattle.token.specs.Kind.{is_plain, is_rule, k_as, k_colon, k_comment, k_deleted, k_dot, k_equals}
use Rattle.token.specs.Kind.{k_identifier, k_integer, k_left_square, k_path, k_right_curly, k_right_square}
use Rattle.grammar.specs.Tree.{FieldTree, DeletedPart, HeadTree}
use Rattle.grammar.specs.Reading.{Result, ok, fail, and_then, is, consume, optional, skip, is_dotted, parse_dotted, parse_single}
use Rattle.grammar.specs.Reading.{parse_type, parse_type_part, parse_field, Reading, is_end, parse_fields, parse_deleted, parse_head}
use Rattle.grammar.specs.Reading.{parse_right, parse_declaration, parse_alias, parse_import}
use Rattle.grammar.proofs.Declarations.{head_sound}
use Rattle.grammar.proofs.Eats.{head_eats}

-- the tokens that a result leaves
abbrev pub left : {A : Type 0} → Result A → List Token
left (ok a r) = r
left (fail n r) = r

module _ {A B : Type 0} where
  and_then_left : (m : Result A) (f : A → List Token → Result B) (n : ℕ) → length (left m) ≤ n
      → ((a : A) (r : List Token) → length r ≤ n → length (left (f a r)) ≤ n) → length (left (and_then m f)) ≤ n
  and_then_left (ok a r) f n h g = g a r h
  and_then_left (fail k r) f n h g = h

-- a rule that leaves no more than it was given
abbrev Shrinks : {A : Type 0} → (List Token → Result A) → Type 0
Shrinks rule = (n : ℕ) (ts : List Token) → length ts ≤ n → length (left (rule ts)) ≤ n

pub consume_left : (number : ℕ) (test : ℕ → Bool) → Shrinks (consume number test)
unfolding pick
consume_left number test n [] l = l
consume_left number test n (t ∷ ts) l = go (test t.kind) refl
  where
    go : (b : Bool) → test t.kind ≡ b → length (left (consume number test (t ∷ ts))) ≤ n
    go true e = rw e (omega arith)
    go false e = rw e l

optional_left : {A : Type 0} (test : ℕ → Bool) (rule : Token → List Token → Result A) → ((t : Token) → Shrinks (rule t))
    → Shrinks (optional test rule)
optional_left test rule shrinks n [] l = l
optional_left test rule shrinks n (t ∷ ts) l = go (test t.kind) refl
  where
    go : (b : Bool) → test t.kind ≡ b → length (left (optional test rule (t ∷ ts))) ≤ n
    go true e = rw (e, optional) (and_then_left (rule t ts) _ n (shrinks t n ts (omega arith)) λ x r m. m)
    go false e = rw (e, optional) l

token_left : (t : Token) → Shrinks (ok t)
token_left t n ts l = l

single_left : Shrinks parse_single
single_left n ts l = and_then_left (consume 9 (is k_identifier) ts) _ n (consume_left 9 (is k_identifier) n ts l) λ x r m. m

dotted_left : Shrinks parse_dotted
dotted_left n ts l =
    and_then_left (consume 10 (is k_identifier) ts) _ n (consume_left 10 (is k_identifier) n ts l) λ i ts₁ l₁.
    and_then_left (consume 9 (is k_dot) ts₁) _ n (consume_left 9 (is k_dot) n ts₁ l₁) λ d ts₂ l₂.
    and_then_left (consume 9 (is k_identifier) ts₂) _ n (consume_left 9 (is k_identifier) n ts₂ l₂) λ x r m. m

type_left : Shrinks parse_type
type_left n [] l = l
type_left n (t ∷ ts) l = go (eqb t.kind k_left_square) (is_plain t.kind) (is_dotted ts) refl refl refl (type_left n ts (omega arith))
  where
    go : (a b c : Bool) → eqb t.kind k_left_square ≡ a → is_plain t.kind ≡ b → is_dotted ts ≡ c → length (left (parse_type ts)) ≤ n
        → length (left (parse_type (t ∷ ts))) ≤ n
    go true b c e f g ih =
        rw (e, parse_type)
        (and_then_left (parse_type ts) _ n ih λ y ts₁ l₁. and_then_left (consume 11 (is k_right_square) ts₁) _ n (consume_left 11 (is k_right_square) n ts₁ l₁)
        λ x r m. m)
    go false true c e f g ih = rw (e, f, parse_type) (omega arith)
    go false false true e f g ih = rw (e, f, g, parse_type) (dotted_left n (t ∷ ts) l)
    go false false false e f g ih = rw (e, f, g, parse_type) (single_left n (t ∷ ts) l)

part_left : (c : Token) → Shrinks (parse_type_part c)
part_left c n ts l = and_then_left (parse_type ts) _ n (type_left n ts l) λ x r m. m

pub field_left : Shrinks parse_field
field_left n ts l =
    and_then_left (optional (is k_comment) ok ts) _ n (optional_left (is k_comment) ok token_left n ts l) λ c ts₁ l₁.
    and_then_left (optional is_rule ok ts₁) _ n (optional_left is_rule ok token_left n ts₁ l₁) λ x ts₂ l₂.
    and_then_left (consume 8 (is k_identifier) ts₂) _ n (consume_left 8 (is k_identifier) n ts₂ l₂) λ i ts₃ l₃.
    and_then_left (optional (is k_colon) parse_type_part ts₃) _ n (optional_left (is k_colon) parse_type_part part_left n ts₃ l₃) λ y ts₄ l₄.
    and_then_left (consume 12 (is k_equals) ts₄) _ n (consume_left 12 (is k_equals) n ts₄ l₄) λ e ts₅ l₅.
    and_then_left (consume 13 (is k_integer) ts₅) _ n (consume_left 13 (is k_integer) n ts₅ l₅) λ z r m. m

alias_left : (a : Token) → Shrinks (parse_alias a)
alias_left a n ts l = and_then_left (consume 7 (is k_identifier) ts) _ n (consume_left 7 (is k_identifier) n ts l) λ x r m. m

pub import_left : (i : Token) → Shrinks (parse_import i)
import_left i n ts l =
    and_then_left (consume 6 (is k_path) ts) _ n (consume_left 6 (is k_path) n ts l) λ p ts₁ l₁.
    and_then_left (optional (is k_as) parse_alias ts₁) _ n (optional_left (is k_as) parse_alias alias_left n ts₁ l₁) λ x r m. m

skip_left : (test : ℕ → Bool) (n : ℕ) (ts : List Token) → length ts ≤ n → length (skip test ts) ≤ n
skip_left test n [] l = l
skip_left test n (t ∷ ts) l = go (test t.kind) refl (skip_left test n ts (omega arith))
  where
    go : (b : Bool) → test t.kind ≡ b → length (skip test ts) ≤ n → length (skip test (t ∷ ts)) ≤ n
    go true e ih = rw (e, skip) ih
    go false e ih = rw (e, skip) l

pub fields_left : (k end n : ℕ) (ts : List Token) → length ts ≤ n → length (parse_fields k end ts).rest ≤ n
fields_left zero end n ts l = l
fields_left (suc k) end n ts l = go (is_end ts) (parse_field ts) refl refl (field_left n ts l) (fields_left k end n)
  where
    go : (b : Bool) (m : Result FieldTree) → is_end ts ≡ b → parse_field ts ≡ m → length (left (parse_field ts)) ≤ n
        → ((us : List Token) → length us ≤ n → length (parse_fields k end us).rest ≤ n) → length (parse_fields (suc k) end ts).rest ≤ n
    go true m e p f ih = rw (e, parse_fields) l
    go false (ok x r) e p f ih = rw (e, p, parse_fields) (ih r (rw p at f))
    go false (fail x r) e p f ih = rw (e, p, parse_fields) (skip_left _ n r (rw p at f))

pub deleted_left : (n : ℕ) (ts : List Token) → length ts ≤ n → length (parse_deleted ts).rest ≤ n
deleted_left n [] l = l
deleted_left n (t ∷ ts) l = go (eqb t.kind k_deleted) refl
  where
    go : (b : Bool) → eqb t.kind k_deleted ≡ b → length (parse_deleted (t ∷ ts)).rest ≤ n
    go true e = rw (e, parse_deleted) (skip_left (is k_integer) n ts (omega arith))
    go false e = rw (e, parse_deleted) l

right_left : (end : ℕ) (h : HeadTree) (fs : Reading (List FieldTree)) (d : Reading (Option DeletedPart)) (m : Result Token) (n : ℕ)
    → length (left m) ≤ n
    → length (parse_right end h fs d m).rest ≤ n
right_left end h fs d (ok z r) n l = l
right_left end h fs d (fail x r) n l = omega arith

-- a declaration takes at least its first token
pub declaration_left : (end : ℕ) (t : Token) (ts : List Token) → length (parse_declaration end (t ∷ ts)).rest ≤ length ts
declaration_left end t ts = go (parse_head (t ∷ ts)) refl
  where
    go : (m : Result HeadTree) → parse_head (t ∷ ts) ≡ m → length (parse_declaration end (t ∷ ts)).rest ≤ length ts
    go (fail x r) p = rw (p, parse_declaration) (omega arith)
    go (ok h r) p =
        let q = head_sound (t ∷ ts) p in
        let fs = parse_fields (length r) end r in
        let d = parse_deleted fs.rest in
        let l : length r ≤ length ts = omega (arith, ap length q.0, head_eats h r) in
        rw (p, parse_declaration)
        (right_left end h fs d (consume 5 (is k_right_curly) d.rest) (length ts)
        (consume_left 5 (is k_right_curly) (length ts) d.rest (deleted_left (length ts) fs.rest (fields_left (length r) end (length ts) r l))))
