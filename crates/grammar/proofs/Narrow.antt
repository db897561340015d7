-- Every error of a table's tokens fits its record. One law follows reading rule by rule, for any property of errors that those at sane tokens have.
use Prim.Native.Nat.{ℕ, zero, suc, ◌≤◌, ◌<◌}
use mathlib.Core.Path.{◌≡◌, refl}
use mathlib.Core.Bool.{Bool, true, false}
use mathlib.Core.Option.{Option, none, some}
use mathlib.Core.List.{List, [], ◌∷◌, ◌++◌}
use native.Mathlib.Omega.{arith}
use lib.Dec.{eqb, leb}
use lib.ListN.{length}
use Rattle.wire.specs.Bytes.{Bytes}
use Rattle.wire.specs.Pick.{pick}
use Rattle.wire.proofs.Numbers.{AllBytes}
use Rattle.token.specs.Token.{Token, end_of}
use Rattle.token.specs.Kind.{is_plain, is_rule, is_keyword, k_as, k_colon, k_comment, k_deleted, k_dot, k_equals, k_identifier}
use Rattle.token.specs.Kind.{k_import, k_integer, k_left_curly, k_left_square, k_path, k_right_curly, k_right_square, k_struct}
use Rattle.token.specs.Table.{tokens, decode}
use Rattle.token.proofs.Encode.{decode_holds}
use Rattle.grammar.specs.Tree.{FieldTree, DeletedPart, HeadTree, AliasPart, ImportTree, IfAny, All}
use Rattle.grammar.specs.Place.{span}
use Rattle.grammar.specs.Error.{Error, kind_at, found_at, error_at, error_over, Narrow}
use Rattle.grammar.specs.Meaning.{last_of, is_nameless}
use Rattle.grammar.specs.Condition.{any_of, same_import, same_index, import_errors, index_errors}
use Rattle.grammar.specs.Reading.{Result, ok, fail, and_then, is, consume, optional, front, skip, is_dotted, parse_dotted, parse_single, parse_type}
use Rattle.grammar.specs.Reading.{parse_type_part, parse_field, Reading, is_end, parse_fields, parse_deleted, parse_keyword, name_number, parse_head, parse_right}
use Rattle.grammar.specs.Reading.{parse_declaration, parse_declarations, parse_alias, parse_import, parse_imports, is_opening, parse_opening, parse_schema}
use Rattle.grammar.proofs.Rules.{all_append}
use Rattle.grammar.proofs.Schemas.{end_same}
use Rattle.grammar.proofs.Fuel.{declarations_rest}
use Rattle.grammar.proofs.Held.{Sane, Held, table_held}

-- what a rule gives has P or is the number of an error, and the tokens that it leaves are sane
data Fine {A : Type 0} (P : A → Type 0) : Result A → Type 0 where
  fine : {a : A} {r : List Token} → P a → All Sane r → Fine P (ok a r)
  failed : {n : ℕ} {r : List Token} → n ≤ 18 → All Sane r → Fine P (fail n r)

-- no error tells of what was read
abbrev Any : {A : Type 0} → A → Type 0
Any a = Unit {0}

abbrev Rule : {A : Type 0} → (A → Type 0) → (List Token → Result A) → Type 0
Rule P rule = (ts : List Token) → All Sane ts → Fine P (rule ts)

module _ {A B : Type 0} {P : A → Type 0} {Q : B → Type 0} where
  then_fine : {m : Result A} {f : A → List Token → Result B} → Fine P m → ((a : A) (r : List Token) → P a → All Sane r → Fine Q (f a r))
      → Fine Q (and_then m f)
  then_fine (fine v h) g = g _ _ v h
  then_fine (failed n h) g = failed n h

consume_fine : (number : ℕ) (test : ℕ → Bool) → number ≤ 18 → Rule Sane (consume number test)
unfolding pick
consume_fine number test n [] h = failed n h
consume_fine number test n (t ∷ ts) h = go (test t.kind) refl
  where
    go : (b : Bool) → test t.kind ≡ b → Fine Sane (consume number test (t ∷ ts))
    go true e = rw e (fine h.0 h.1)
    go false e = rw e (failed n h)

module _ {A : Type 0} {P : A → Type 0} (test : ℕ → Bool) (rule : Token → List Token → Result A) (keeps : (t : Token) → Sane t → Rule P (rule t)) where
  optional_fine : Rule (IfAny P) (optional test rule)
  optional_fine [] h = fine tt h
  optional_fine (t ∷ ts) h = go (test t.kind) refl
    where
      go : (b : Bool) → test t.kind ≡ b → Fine (IfAny P) (optional test rule (t ∷ ts))
      go true e = rw (e, optional) (then_fine (keeps t h.0 ts h.1) λ x r v h₁. fine v h₁)
      go false e = rw (e, optional) (fine tt h)

token_fine : (t : Token) → Sane t → Rule Sane (ok t)
token_fine t s ts h = fine s h

-- types, fields, heads and imports
single_fine : Rule Any parse_single
single_fine ts h = then_fine (consume_fine 9 (is k_identifier) (omega arith) ts h) λ n ts₁ s h₁. fine tt h₁

dotted_fine : Rule Any parse_dotted
dotted_fine ts h =
    then_fine (consume_fine 10 (is k_identifier) (omega arith) ts h) λ i ts₁ s₁ h₁.
    then_fine (consume_fine 9 (is k_dot) (omega arith) ts₁ h₁) λ d ts₂ s₂ h₂.
    then_fine (consume_fine 9 (is k_identifier) (omega arith) ts₂ h₂) λ n ts₃ s₃ h₃. fine tt h₃

type_fine : Rule Any parse_type
type_fine [] h = failed {n = 9} (omega arith) h
type_fine (t ∷ ts) h = go (eqb t.kind k_left_square) (is_plain t.kind) (is_dotted ts) refl refl refl (type_fine ts h.1)
  where
    go : (a b c : Bool) → eqb t.kind k_left_square ≡ a → is_plain t.kind ≡ b → is_dotted ts ≡ c → Fine Any (parse_type ts) → Fine Any (parse_type (t ∷ ts))
    go true b c e f g ih =
        rw (e, parse_type)
        (then_fine ih λ y ts₁ s₁ h₁. then_fine (consume_fine 11 (is k_right_square) (omega arith) ts₁ h₁) λ r ts₂ s₂ h₂. fine tt h₂)
    go false true c e f g ih = rw (e, f, parse_type) (fine tt h.1)
    go false false true e f g ih = rw (e, f, g, parse_type) (dotted_fine (t ∷ ts) h)
    go false false false e f g ih = rw (e, f, g, parse_type) (single_fine (t ∷ ts) h)

part_fine : (c : Token) → Sane c → Rule Any (parse_type_part c)
part_fine c s ts h = then_fine (type_fine ts h) λ y ts₁ s₁ h₁. fine tt h₁

field_fine : Rule Any parse_field
field_fine ts h =
    then_fine (optional_fine (is k_comment) ok token_fine ts h) λ c ts₁ s₁ h₁.
    then_fine (optional_fine is_rule ok token_fine ts₁ h₁) λ x ts₂ s₂ h₂.
    then_fine (consume_fine 8 (is k_identifier) (omega arith) ts₂ h₂) λ n ts₃ s₃ h₃.
    then_fine (optional_fine (is k_colon) parse_type_part part_fine ts₃ h₃) λ y ts₄ s₄ h₄.
    then_fine (consume_fine 12 (is k_equals) (omega arith) ts₄ h₄) λ e ts₅ s₅ h₅.
    then_fine (consume_fine 13 (is k_integer) (omega arith) ts₅ h₅) λ i ts₆ s₆ h₆. fine tt h₆

keyword_fine : (c : Option Token) → IfAny Sane c → Rule Sane (parse_keyword c)
keyword_fine none s ts h = consume_fine 1 is_keyword (omega arith) ts h
keyword_fine (some c) s [] h = failed {n = 18} {r = c ∷ []} (omega arith) (s, tt)
keyword_fine (some c) s (t ∷ ts) h = consume_fine 1 is_keyword (omega arith) (t ∷ ts) h

name_number_lem : (k : Token) → name_number k ≤ 18
unfolding pick
name_number_lem k = go (eqb k.kind k_struct)
  where
    go : (b : Bool) → pick b 2 3 ≤ 18
    go true = omega arith
    go false = omega arith

head_fine : Rule Any parse_head
head_fine ts h =
    then_fine (optional_fine (is k_comment) ok token_fine ts h) λ c ts₁ s₁ h₁.
    then_fine (keyword_fine c s₁ ts₁ h₁) λ k ts₂ s₂ h₂.
    then_fine (consume_fine (name_number k) (is k_identifier) (name_number_lem k) ts₂ h₂) λ n ts₃ s₃ h₃.
    then_fine (consume_fine 4 (is k_left_curly) (omega arith) ts₃ h₃) λ l ts₄ s₄ h₄. fine tt h₄

abbrev SaneAlias : AliasPart → Type 0
SaneAlias p = Sane p.name

alias_fine : (a : Token) → Sane a → Rule SaneAlias (parse_alias a)
alias_fine a s ts h = then_fine (consume_fine 7 (is k_identifier) (omega arith) ts h) λ n ts₁ s₁ h₁. fine s₁ h₁

last_sane : {path : Token} (o : Option AliasPart) → Sane path → IfAny SaneAlias o → Sane (last_of path o)
last_sane none s v = s
last_sane (some p) s v = v

-- an import's first and last token
abbrev SaneEnds : ImportTree → Type 0
SaneEnds i = Sane i.keyword × Sane (last_of i.path i.alias)

import_fine : (i : Token) → Sane i → Rule SaneEnds (parse_import i)
import_fine i s ts h =
    then_fine (consume_fine 6 (is k_path) (omega arith) ts h) λ p ts₁ s₁ h₁.
    then_fine (optional_fine (is k_as) parse_alias alias_fine ts₁ h₁) λ a ts₂ s₂ h₂. fine (s, last_sane a s₁ s₂) h₂

module _ (test : ℕ → Bool) where
  front_sane : (ts : List Token) → All Sane ts → All Sane (front test ts)
  front_sane [] h = tt
  front_sane (t ∷ ts) h = go (test t.kind) refl (front_sane ts h.1)
    where
      go : (b : Bool) → test t.kind ≡ b → All Sane (front test ts) → All Sane (front test (t ∷ ts))
      go true e ih = rw (e, front) (h.0, ih)
      go false e ih = rw (e, front) tt

  skip_sane : (ts : List Token) → All Sane ts → All Sane (skip test ts)
  skip_sane [] h = tt
  skip_sane (t ∷ ts) h = go (test t.kind) refl (skip_sane ts h.1)
    where
      go : (b : Bool) → test t.kind ≡ b → All Sane (skip test ts) → All Sane (skip test (t ∷ ts))
      go true e ih = rw (e, skip) ih
      go false e ih = rw (e, skip) h

-- a property of the errors that are at sane tokens, or at the list's end
pub record Told (end : ℕ) (P : Error → Type 0) : Type 0 where
  pub at : (number : ℕ) (ts : List Token) → number ≤ 18 → All Sane ts → P (error_at end number ts)
  pub over : (number : ℕ) (first last : Token) → number ≤ 18 → Sane first → Sane last → P (error_over number (span first last))

module _ {end : ℕ} {P : Error → Type 0} (told : Told end P) where
  -- all errors have it, and sane tokens are left
  record Reads {A : Type 0} (r : Reading A) : Type 0 where
    errors : All P r.errors
    rest : All Sane r.rest

  one_told : (b : Bool) (e : Error) → P e → All P (pick b (e ∷ []) [])
  unfolding pick
  one_told true e p = (p, tt)
  one_told false e p = tt

  indices_told : (before ts : List Token) → All Sane ts → All P (index_errors before ts)
  indices_told before [] h = tt
  indices_told before (t ∷ ts) h =
      let b = any_of (same_index t) before in
      let e = error_over 16 (span t t) in
      all_append P (pick b (e ∷ []) []) (index_errors (t ∷ before) ts)
      (one_told b e (told.over 16 t t (omega arith) h.0 h.0)) (indices_told (t ∷ before) ts h.1)

  import_told : (before : List ImportTree) (i : ImportTree) → SaneEnds i → All P (import_errors before i)
  import_told before i (s, l) =
      let last = last_of i.path i.alias in
      let range = span i.keyword last in
      let b = any_of (same_import i) before in
      all_append P (pick (is_nameless i) (error_over 14 range ∷ []) []) (pick b (error_over 15 range ∷ []) [])
      (one_told (is_nameless i) (error_over 14 range) (told.over 14 i.keyword last (omega arith) s l))
      (one_told b (error_over 15 range) (told.over 15 i.keyword last (omega arith) s l))

  fields_told : (k : ℕ) (ts : List Token) → All Sane ts → Reads (parse_fields k end ts)
  fields_told zero ts h = record { errors = tt; rest = h }
  fields_told (suc k) ts h = go (is_end ts) (parse_field ts) refl refl (field_fine ts h) (fields_told k)
    where
      go : (b : Bool) (m : Result FieldTree) → is_end ts ≡ b → parse_field ts ≡ m → Fine Any m
          → ((us : List Token) → All Sane us → Reads (parse_fields k end us)) → Reads (parse_fields (suc k) end ts)
      go true m e p f ih = rw (e, parse_fields) (record { errors = tt; rest = h })
      go false (ok x r) e p (fine v s) ih = let q = ih r s in rw (e, p, parse_fields) (record { errors = q.errors; rest = q.rest })
      go false (fail n r) e p (failed l s) ih = rw (e, p, parse_fields) (record { errors = (told.at n r l s, tt); rest = skip_sane _ r s })

  deleted_told : (ts : List Token) → All Sane ts → Reads (parse_deleted ts)
  deleted_told [] h = record { errors = tt; rest = tt }
  deleted_told (t ∷ ts) h = go (eqb t.kind k_deleted) refl
    where
      go : (b : Bool) → eqb t.kind k_deleted ≡ b → Reads (parse_deleted (t ∷ ts))
      go false e = rw (e, parse_deleted) (record { errors = tt; rest = h })
      go true e =
          let f = front_sane (is k_integer) ts h.1 in
          rw (e, parse_deleted) (record { errors = indices_told [] (front (is k_integer) ts) f; rest = skip_sane (is k_integer) ts h.1 })

  right_told : (h : HeadTree) (fs : Reading (List FieldTree)) (d : Reading (Option DeletedPart)) {m : Result Token} → Reads fs → Reads d → Fine Sane m
      → Reads (parse_right end h fs d m)
  right_told h fs d a b (fine v s) = record { errors = all_append P fs.errors d.errors a.errors b.errors; rest = s }
  right_told h fs d a b (failed {n} {r} l s) =
      let both = all_append P fs.errors d.errors a.errors b.errors in
      record { errors = all_append P (fs.errors ++ d.errors) (error_at end n r ∷ []) both (told.at n r l s, tt); rest = tt }

  declaration_told : (ts : List Token) → All Sane ts → Reads (parse_declaration end ts)
  declaration_told ts h = go (parse_head ts) refl (head_fine ts h)
    where
      go : (m : Result HeadTree) → parse_head ts ≡ m → Fine Any m → Reads (parse_declaration end ts)
      go (fail n r) p (failed l s) = rw (p, parse_declaration) (record { errors = (told.at n r l s, tt); rest = tt })
      go (ok x r) p (fine v s) =
          let fs = parse_fields (length r) end r in
          let a = fields_told (length r) r s in
          let d = parse_deleted fs.rest in
          let b = deleted_told fs.rest a.rest in
          rw (p, parse_declaration) (right_told x fs d a b (consume_fine 5 (is k_right_curly) (omega arith) d.rest b.rest))

  declarations_told : (k : ℕ) (ts : List Token) → All Sane ts → Reads (parse_declarations k end ts)
  declarations_told zero ts h = record { errors = tt; rest = h }
  declarations_told (suc k) [] h = record { errors = tt; rest = tt }
  declarations_told (suc k) (t ∷ ts) h =
      let d = parse_declaration end (t ∷ ts) in
      let a = declaration_told (t ∷ ts) h in
      let b = declarations_told k d.rest a.rest in
      record { errors = all_append P d.errors (parse_declarations k end d.rest).errors a.errors b.errors; rest = b.rest }

  imports_told : (k : ℕ) (before : List ImportTree) (ts : List Token) → All Sane ts → Reads (parse_imports k end before ts)
  imports_told zero before ts h = record { errors = tt; rest = h }
  imports_told (suc k) before [] h = record { errors = tt; rest = tt }
  imports_told (suc k) before (t ∷ ts) h = go (eqb t.kind k_import) (parse_import t ts) refl refl (import_fine t h.0 ts h.1) (imports_told k)
    where
      go : (b : Bool) (m : Result ImportTree) → eqb t.kind k_import ≡ b → parse_import t ts ≡ m → Fine SaneEnds m
          → ((bs : List ImportTree) (us : List Token) → All Sane us → Reads (parse_imports k end bs us)) → Reads (parse_imports (suc k) end before (t ∷ ts))
      go false m e p f ih = rw (e, parse_imports) (record { errors = tt; rest = h })
      go true (ok i r) e p (fine v s) ih =
          let q = ih (i ∷ before) r s in
          let es = all_append P (import_errors before i) (parse_imports k end (i ∷ before) r).errors (import_told before i v) q.errors in
          rw (e, p, parse_imports) (record { errors = es; rest = q.rest })
      go true (fail n r) e p (failed l s) ih = let q = ih before r s in
          rw (e, p, parse_imports) (record { errors = (told.at n r l s, q.errors); rest = q.rest })

opening_sane : (ts : List Token) → All Sane ts → All Sane (parse_opening ts).rest
opening_sane [] h = tt
opening_sane (t ∷ ts) h = go (is_opening (t ∷ ts)) refl
  where
    go : (b : Bool) → is_opening (t ∷ ts) ≡ b → All Sane (parse_opening (t ∷ ts)).rest
    go true e = rw (e, parse_opening) h.1
    go false e = rw (e, parse_opening) h

-- the law: every error of reading has the property
pub errors_told : (ts : List Token) {P : Error → Type 0} → Told (end_of 0 ts) P → All Sane ts → All P (parse_schema ts).errors
errors_told ts {P} told h =
    let end = end_of 0 ts in
    let c = parse_opening ts in
    let is' = parse_imports (length c.rest) end [] c.rest in
    let ds = parse_declarations (length is'.rest) end is'.rest in
    let a = imports_told told (length c.rest) [] c.rest (opening_sane ts h) in
    let b = declarations_told told (length is'.rest) is'.rest a.rest in
    rw (declarations_rest (length is'.rest) end is'.rest (omega arith), end_same (is'.errors ++ ds.errors))
    (all_append P is'.errors ds.errors a.errors b.errors)

-- Its record holds it.
found_small : (number : ℕ) (ts : List Token) → All Sane ts → found_at number ts < 65536
unfolding pick
found_small number ts h = go (leb number 13) ts h
  where
    go : (b : Bool) (us : List Token) → All Sane us → pick b (kind_at us) 0 < 65536
    go false us s = omega arith
    go true [] s = omega arith
    go true (t ∷ us) s = omega (arith, s.0.kind)

narrow_at : (end number : ℕ) (ts : List Token) → end < 4294967296 → number ≤ 18 → All Sane ts → Narrow (error_at end number ts)
narrow_at end number [] e n h = record { number = omega arith; start = e; end = e; found = found_small number [] h }
narrow_at end number (t ∷ ts) e n h = record { number = omega arith; start = h.0.start; end = h.0.end; found = found_small number (t ∷ ts) h }

told_narrow : (end : ℕ) → end < 4294967296 → Told end Narrow
told_narrow end e =
    record {
      at = λ number ts n h. narrow_at end number ts e n h;
      over = λ number first last n s l. record { number = omega arith; start = s.start; end = l.end; found = omega arith };
    }

all_sane : (ts : List Token) → Held ts → All Sane ts
all_sane [] h = tt
all_sane (t ∷ ts) h = (h.0, all_sane ts h.2)

pub errors_narrow : (table : Bytes) (ts : List Token) → AllBytes table → decode table ≡ tokens ts → All Narrow (parse_schema ts).errors
errors_narrow table ts a d = errors_told ts (told_narrow (end_of 0 ts) (decode_holds table ts a d).narrow) (all_sane ts (table_held table ts a d))
