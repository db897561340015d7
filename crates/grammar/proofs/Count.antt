-- There are never more errors than tokens, and 57,344 bytes hold those of any table.
use Prim.Native.Nat.{ℕ, zero, suc, ◌+◌, ◌*◌, ◌≤◌}
use mathlib.Core.Path.{◌≡◌, refl, ap}
use mathlib.Core.Bool.{Bool, true, false}
use mathlib.Core.Option.{Option}
use mathlib.Core.List.{List, [], ◌∷◌, ◌++◌}
use native.Mathlib.Omega.{arith}
use lib.Dec.{eqb}
use lib.ListN.{length, length-append}
use borrow.Author.Tests.{eqb-true}
use Rattle.wire.specs.Pick.{pick}
use Rattle.wire.specs.Record.{head_bytes, record_bytes}
use Rattle.wire.proofs.Numbers.{le_bytes-length}
use Rattle.token.specs.Token.{Token, end_of}
use Rattle.token.specs.Kind.{k_deleted, k_import, k_integer, k_right_curly}
use Rattle.grammar.specs.Tree.{FieldTree, DeletedPart, HeadTree, ImportTree, each}
use Rattle.grammar.specs.Error.{Error, error_at, error_over, error_bytes, errors_bytes}
use Rattle.grammar.specs.Meaning.{is_nameless, import_of}
use Rattle.grammar.specs.Condition.{any_of, same_import, same_index, import_errors, index_errors}
use Rattle.grammar.specs.Reading.{Result, ok, fail, is, consume, front, skip, parse_field, Reading, is_end, parse_fields, parse_deleted, parse_head}
use Rattle.grammar.specs.Reading.{parse_right, parse_declaration, parse_declarations, parse_import, parse_imports, is_opening, parse_opening, parse_schema}
use Rattle.grammar.proofs.Rules.{front_sound}
use Rattle.grammar.proofs.Declarations.{head_sound}
use Rattle.grammar.proofs.Imports.{import_sound}
use Rattle.grammar.proofs.Schemas.{end_same}
use Rattle.grammar.proofs.Eats.{head_eats, import_eats}
use Rattle.grammar.proofs.Left.{left, consume_left, fields_left, import_left}
use Rattle.grammar.proofs.Fuel.{declarations_rest}

one_at_most : (b : Bool) (e : Error) → length (pick b (e ∷ []) []) ≤ 1
unfolding pick
one_at_most true e = omega arith
one_at_most false e = omega arith

indices_count : (before ts : List Token) → length (index_errors before ts) ≤ length ts
indices_count before [] = omega arith
indices_count before (t ∷ ts) =
    let e = error_over 16 (record { start = t.start; end = t.end }) in
    omega (
      arith,
      one_at_most (any_of (same_index t) before) e,
      length-append (pick (any_of (same_index t) before) (e ∷ []) []) (index_errors (t ∷ before) ts),
      indices_count (t ∷ before) ts,
    )

pub run_length : (is' r : List Token) → length (each ◌∷◌ is' r) ≡ length is' + length r
run_length [] r = omega arith
run_length (i ∷ is') r = omega (arith, run_length is' r)

fields_count : (k end : ℕ) (ts : List Token) → length (parse_fields k end ts).errors ≤ 1
fields_count zero end ts = omega arith
fields_count (suc k) end ts = go (is_end ts) (parse_field ts) refl refl (fields_count k end)
  where
    go : (b : Bool) (m : Result FieldTree) → is_end ts ≡ b → parse_field ts ≡ m → ((us : List Token) → length (parse_fields k end us).errors ≤ 1)
        → length (parse_fields (suc k) end ts).errors ≤ 1
    go true m e p ih = rw (e, parse_fields) (omega arith)
    go false (ok f r) e p ih = rw (e, p, parse_fields) (ih r)
    go false (fail n r) e p ih = rw (e, p, parse_fields) (omega arith)

deleted_count : (ts : List Token) → length (parse_deleted ts).errors + length (parse_deleted ts).rest ≤ length ts
deleted_count [] = omega arith
deleted_count (t ∷ ts) = go (eqb t.kind k_deleted) refl
  where
    go : (b : Bool) → eqb t.kind k_deleted ≡ b → length (parse_deleted (t ∷ ts)).errors + length (parse_deleted (t ∷ ts)).rest ≤ suc (length ts)
    go false e = rw (e, parse_deleted) (omega arith)
    go true e =
        let f = front (is k_integer) ts in
        rw (e, parse_deleted) (omega (arith, ap length (front_sound k_integer ts).0, run_length f (skip (is k_integer) ts), indices_count [] f))

right_count : (end : ℕ) (h : HeadTree) (fs : Reading (List FieldTree)) (d : Reading (Option DeletedPart)) (m : Result Token) (n : ℕ)
    → length fs.errors ≤ 1 → length d.errors + length (left m) ≤ n
    → length (parse_right end h fs d m).errors + length (parse_right end h fs d m).rest ≤ n + 2
right_count end h fs d (ok z r) n a b = omega (arith, length-append fs.errors d.errors)
right_count end h fs d (fail k r) n a b =
    omega (arith, length-append fs.errors d.errors, length-append (fs.errors ++ d.errors) (error_at end k r ∷ []))

declaration_count : (end : ℕ) (t : Token) (ts : List Token)
    → length (parse_declaration end (t ∷ ts)).errors + length (parse_declaration end (t ∷ ts)).rest ≤ suc (length ts)
declaration_count end t ts = go (parse_head (t ∷ ts)) refl
  where
    go : (m : Result HeadTree) → parse_head (t ∷ ts) ≡ m
        → length (parse_declaration end (t ∷ ts)).errors + length (parse_declaration end (t ∷ ts)).rest ≤ suc (length ts)
    go (fail n r) p = rw (p, parse_declaration) (omega arith)
    go (ok h r) p =
        let q = head_sound (t ∷ ts) p in
        let fs = parse_fields (length r) end r in
        let d = parse_deleted fs.rest in
        let m = consume 5 (is k_right_curly) d.rest in
        let l : length d.errors + length (left m) ≤ length r =
        omega (
          arith,
          deleted_count fs.rest,
          consume_left 5 (is k_right_curly) (length d.rest) d.rest (omega arith),
          fields_left (length r) end (length r) r (omega arith),
        ) in
        rw (p, parse_declaration)
        (omega (arith, right_count end h fs d m (length r) (fields_count (length r) end r) l, ap length q.0, head_eats h r))

declarations_count : (k end : ℕ) (ts : List Token) → length (parse_declarations k end ts).errors ≤ length ts
declarations_count zero end ts = omega arith
declarations_count (suc k) end [] = omega arith
declarations_count (suc k) end (t ∷ ts) =
    let d = parse_declaration end (t ∷ ts) in
    let q = parse_declarations k end d.rest in
    omega (arith, declaration_count end t ts, declarations_count k end d.rest, length-append d.errors q.errors)

import_count : (before : List ImportTree) (i : ImportTree) → length (import_errors before i) ≤ 2
import_count before i =
    let a = error_over 14 (import_of i).range in
    let b = error_over 15 (import_of i).range in
    omega (
      arith,
      one_at_most (is_nameless i) a,
      one_at_most (any_of (same_import i) before) b,
      length-append (pick (is_nameless i) (a ∷ []) []) (pick (any_of (same_import i) before) (b ∷ []) []),
    )

pub imports_count : (k end : ℕ) (before : List ImportTree) (ts : List Token)
    → length (parse_imports k end before ts).errors + length (parse_imports k end before ts).rest ≤ length ts
imports_count zero end before ts = omega arith
imports_count (suc k) end before [] = omega arith
imports_count (suc k) end before (t ∷ ts) = go (eqb t.kind k_import) (parse_import t ts) refl refl (imports_count k end)
  where
    go : (b : Bool) (m : Result ImportTree) → eqb t.kind k_import ≡ b → parse_import t ts ≡ m
        → ((bs : List ImportTree) (us : List Token) → length (parse_imports k end bs us).errors + length (parse_imports k end bs us).rest ≤ length us)
        → length (parse_imports (suc k) end before (t ∷ ts)).errors + length (parse_imports (suc k) end before (t ∷ ts)).rest ≤ suc (length ts)
    go false m e p ih = rw (e, parse_imports) (omega arith)
    go true (ok i r) e p ih =
        let q = import_sound t ts (eqb-true t.kind k_import e) p in
        rw (e, p, parse_imports)
        (omega (
          arith,
          ap length q.0,
          import_eats i r,
          ih (i ∷ before) r,
          import_count before i,
          length-append (import_errors before i) (parse_imports k end (i ∷ before) r).errors,
        ))
    go true (fail n r) e p ih =
        let s : length r ≤ length ts = rw p at (import_left t (length ts) ts (omega arith)) in
        rw (e, p, parse_imports) (omega (arith, ih before r))

pub opening_count : (ts : List Token) → length (parse_opening ts).rest ≤ length ts
opening_count [] = omega arith
opening_count (t ∷ ts) = go (is_opening (t ∷ ts)) refl
  where
    go : (b : Bool) → is_opening (t ∷ ts) ≡ b → length (parse_opening (t ∷ ts)).rest ≤ suc (length ts)
    go true e = rw (e, parse_opening) (omega arith)
    go false e = rw (e, parse_opening) (omega arith)

pub errors_at_most_tokens : (ts : List Token) → length (parse_schema ts).errors ≤ length ts
errors_at_most_tokens ts =
    let end = end_of 0 ts in
    let c = parse_opening ts in
    let is' = parse_imports (length c.rest) end [] c.rest in
    let ds = parse_declarations (length is'.rest) end is'.rest in
    rw (declarations_rest (length is'.rest) end is'.rest (omega arith), end_same (is'.errors ++ ds.errors))
    (omega (
      arith,
      opening_count ts,
      imports_count (length c.rest) end [] c.rest,
      declarations_count (length is'.rest) end is'.rest,
      length-append is'.errors ds.errors,
    ))

-- a record has 14 bytes
error_length : (e : Error) → length (error_bytes e) ≡ 14
unfolding error_bytes record_bytes head_bytes
error_length e = simp (length-append, le_bytes-length)

pub errors_length : (es : List Error) → length (errors_bytes es) ≡ 14 * length es
unfolding errors_bytes
errors_length [] = refl
errors_length (e ∷ es) = omega (arith, length-append (error_bytes e) (errors_bytes es), error_length e, errors_length es)

pub errors_short : (ts : List Token) → length ts ≤ 4096 → length (errors_bytes (parse_schema ts).errors) ≤ 57344
errors_short ts h = omega (arith, errors_length (parse_schema ts).errors, errors_at_most_tokens ts)
