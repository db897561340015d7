-- The number of tokens is enough steps: with as many the loops go on as their tests say, whatever more they are given, and none is left at the
-- end, so that error 17 never occurs.
use Prim.Native.Nat.{ℕ, zero, suc, ◌≤◌, ◌<◌}
use mathlib.Core.Path.{◌≡◌, refl, ap}
use mathlib.Core.Bool.{Bool, true, false, not, true≢false}
use mathlib.Core.List.{List, [], ◌∷◌}
use native.Mathlib.Omega.{arith}
use lib.Dec.{eqb}
use lib.ListN.{length}
use Rattle.token.specs.Token.{Token, end_of}
use Rattle.token.specs.Kind.{k_import, k_right_curly}
use Rattle.grammar.specs.Tree.{FieldTree, ImportTree}
use Rattle.grammar.specs.Error.{error_at}
use Rattle.grammar.specs.Condition.{import_errors}
use Rattle.grammar.specs.Reading.{Result, ok, fail, is, skip, parse_field, nothing, join, is_end, parse_fields}
use Rattle.grammar.specs.Reading.{parse_declaration, parse_declarations, parse_import, parse_imports, parse_opening, parse_schema}
use Rattle.grammar.proofs.Fields.{field_sound}
use Rattle.grammar.proofs.Eats.{field_eats}
use Rattle.grammar.proofs.Left.{left, import_left, declaration_left}

-- fields
field_shrinks : (ts : List Token) {f : FieldTree} {r : List Token} → parse_field ts ≡ ok f r → length r < length ts
field_shrinks ts {f} {r} p = let q = field_sound ts p in omega (arith, ap length q.0, field_eats f r)

fields_fuel : (k m end : ℕ) (ts : List Token) → length ts ≤ k → length ts ≤ m → parse_fields k end ts ≡ parse_fields m end ts
fields_fuel zero zero end ts l n = refl
fields_fuel zero (suc m) end [] l n = refl
fields_fuel zero (suc m) end (t ∷ ts) l n = absurd (omega arith)
fields_fuel (suc k) zero end [] l n = refl
fields_fuel (suc k) zero end (t ∷ ts) l n = absurd (omega arith)
fields_fuel (suc k) (suc m) end ts l n = go (is_end ts) (parse_field ts) refl refl (fields_fuel k m end)
  where
    go : (b : Bool) (x : Result FieldTree) → is_end ts ≡ b → parse_field ts ≡ x
        → ((us : List Token) → length us ≤ k → length us ≤ m → parse_fields k end us ≡ parse_fields m end us)
        → parse_fields (suc k) end ts ≡ parse_fields (suc m) end ts
    go true x e p ih = rw (e, parse_fields)
    go false (fail j r) e p ih = rw (e, p, parse_fields)
    go false (ok f r) e p ih =
        let s = field_shrinks ts p in
        rw (e, p, parse_fields) (rw (ih r (omega arith) (omega arith)))

pub fields_end : (end : ℕ) (ts : List Token) → is_end ts ≡ true → parse_fields (length ts) end ts ≡ nothing ts
fields_end end [] e = refl
fields_end end (t ∷ ts) e = rw (e, parse_fields)

pub fields_next : (end : ℕ) (ts : List Token) {f : FieldTree} {r : List Token} → is_end ts ≡ false → parse_field ts ≡ ok f r
    → parse_fields (length ts) end ts ≡ join (record { errors = []; value = f ∷ []; rest = r }) (parse_fields (length r) end r)
fields_next end [] e p = absurd (true≢false e)
fields_next end (t ∷ ts) {r = r} e p =
    let s = field_shrinks (t ∷ ts) p in
    rw (e, p, parse_fields) (rw (fields_fuel (length ts) (length r) end r (omega arith) (omega arith)))

pub fields_fail : (end : ℕ) (ts : List Token) {n : ℕ} {r : List Token} → is_end ts ≡ false → parse_field ts ≡ fail n r
    → parse_fields (length ts) end ts ≡ record { errors = error_at end n r ∷ []; value = []; rest = skip (λ k. not (is k_right_curly k)) r }
fields_fail end [] e p = absurd (true≢false e)
fields_fail end (t ∷ ts) e p = rw (e, p, parse_fields)

-- declarations
declarations_fuel : (k m end : ℕ) (ts : List Token) → length ts ≤ k → length ts ≤ m → parse_declarations k end ts ≡ parse_declarations m end ts
declarations_fuel zero zero end ts l n = refl
declarations_fuel zero (suc m) end [] l n = refl
declarations_fuel zero (suc m) end (t ∷ ts) l n = absurd (omega arith)
declarations_fuel (suc k) zero end [] l n = refl
declarations_fuel (suc k) zero end (t ∷ ts) l n = absurd (omega arith)
declarations_fuel (suc k) (suc m) end [] l n = refl
declarations_fuel (suc k) (suc m) end (t ∷ ts) l n =
    let d = parse_declaration end (t ∷ ts) in
    let s = declaration_left end t ts in
    ap (join d) (declarations_fuel k m end d.rest (omega arith) (omega arith))

pub declarations_next : (end : ℕ) (t : Token) (ts : List Token)
    → parse_declarations (suc (length ts)) end (t ∷ ts) ≡ join (parse_declaration end (t ∷ ts))
    (parse_declarations (length (parse_declaration end (t ∷ ts)).rest) end (parse_declaration end (t ∷ ts)).rest)
declarations_next end t ts =
    let d = parse_declaration end (t ∷ ts) in
    let s = declaration_left end t ts in
    ap (join d) (declarations_fuel (length ts) (length d.rest) end d.rest s (omega arith))

pub declarations_rest : (k end : ℕ) (ts : List Token) → length ts ≤ k → (parse_declarations k end ts).rest ≡ []
declarations_rest zero end [] l = refl
declarations_rest zero end (t ∷ ts) l = absurd (omega arith)
declarations_rest (suc k) end [] l = refl
declarations_rest (suc k) end (t ∷ ts) l = let s = declaration_left end t ts in declarations_rest k end (parse_declaration end (t ∷ ts)).rest (omega arith)

-- imports
imports_fuel : (k m end : ℕ) (before : List ImportTree) (ts : List Token) → length ts ≤ k → length ts ≤ m
    → parse_imports k end before ts ≡ parse_imports m end before ts
imports_fuel zero zero end before ts l n = refl
imports_fuel zero (suc m) end before [] l n = refl
imports_fuel zero (suc m) end before (t ∷ ts) l n = absurd (omega arith)
imports_fuel (suc k) zero end before [] l n = refl
imports_fuel (suc k) zero end before (t ∷ ts) l n = absurd (omega arith)
imports_fuel (suc k) (suc m) end before [] l n = refl
imports_fuel (suc k) (suc m) end before (t ∷ ts) l n =
    go (eqb t.kind k_import) (parse_import t ts) refl refl (import_left t (length ts) ts (omega arith)) (imports_fuel k m end)
  where
    go : (b : Bool) (x : Result ImportTree) → eqb t.kind k_import ≡ b → parse_import t ts ≡ x → length (left (parse_import t ts)) ≤ length ts
        → ((bs : List ImportTree) (us : List Token) → length us ≤ k → length us ≤ m → parse_imports k end bs us ≡ parse_imports m end bs us)
        → parse_imports (suc k) end before (t ∷ ts) ≡ parse_imports (suc m) end before (t ∷ ts)
    go false x e p s ih = rw (e, parse_imports)
    go true (ok i r) e p s ih =
        let s' : length r ≤ length ts = rw p at s in
        rw (e, p, parse_imports) (rw (ih (i ∷ before) r (omega arith) (omega arith)))
    go true (fail j r) e p s ih =
        let s' : length r ≤ length ts = rw p at s in
        rw (e, p, parse_imports) (rw (ih before r (omega arith) (omega arith)))

module _ (end : ℕ) (before : List ImportTree) (t : Token) (ts : List Token) where
  pub imports_end : eqb t.kind k_import ≡ false → parse_imports (suc (length ts)) end before (t ∷ ts) ≡ nothing (t ∷ ts)
  imports_end e = rw (e, parse_imports)

  pub imports_next : {i : ImportTree} {r : List Token} → eqb t.kind k_import ≡ true → parse_import t ts ≡ ok i r
      → parse_imports (suc (length ts)) end before (t ∷ ts)
      ≡ join (record { errors = import_errors before i; value = i ∷ []; rest = r }) (parse_imports (length r) end (i ∷ before) r)
  imports_next {i} {r} e p =
      let s : length r ≤ length ts = rw p at (import_left t (length ts) ts (omega arith)) in
      rw (e, p, parse_imports) (rw (imports_fuel (length ts) (length r) end (i ∷ before) r s (omega arith)))

  pub imports_dropped : {n : ℕ} {r : List Token} → eqb t.kind k_import ≡ true → parse_import t ts ≡ fail n r
      → parse_imports (suc (length ts)) end before (t ∷ ts)
      ≡ join (record { errors = error_at end n r ∷ []; value = []; rest = r }) (parse_imports (length r) end before r)
  imports_dropped {n} {r} e p =
      let s : length r ≤ length ts = rw p at (import_left t (length ts) ts (omega arith)) in
      rw (e, p, parse_imports) (rw (imports_fuel (length ts) (length r) end before r s (omega arith)))

-- 17 never occurs: no token is left
pub schema_rest : (ts : List Token) → (parse_schema ts).rest ≡ []
schema_rest ts =
    let end = end_of 0 ts in
    let c = parse_opening ts in
    let is' = parse_imports (length c.rest) end [] c.rest in
    declarations_rest (length is'.rest) end is'.rest (omega arith)
