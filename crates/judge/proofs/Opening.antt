-- The schema, past its comment: room for the places of what is left, and the errors of all.
use Prim.Native.Nat.{ℕ, ◌≤◌}
use mathlib.Core.Path.{◌≡◌, refl, sym}
use mathlib.Core.List.{List, [], ◌++◌}
use native.Mathlib.Omega.{arith}
use lib.ListN.{length}
use Rattle.wire.specs.Bytes.{Bytes}
use Rattle.wire.specs.Put.{Wrote}
use Rattle.wire.proofs.Laws.{parts}
use Rattle.token.specs.Token.{end_of}
use Rattle.token.specs.Places.{tokens_from, Wf}
use Rattle.grammar.specs.Error.{errors_bytes}
use Rattle.grammar.specs.Reading.{parse_opening, parse_schema}
use Rattle.grammar.proofs.Schemas.{end_same}
use Rattle.grammar.proofs.Fuel.{declarations_rest}
use Rattle.grammar.proofs.Count.{opening_count, imports_count}
use Rattle.parser.specs.Steps.{ahead}
use Rattle.parser.specs.declared.Cursor.{Cursor}
use Rattle.judge.specs.Judges.{Before, Room, imports_of, declarations_of}
use Rattle.judge.proofs.Ahead.{room_left}
use Rattle.judge.proofs.Errors.{errors_append}

module _ {t : Bytes} {c : Cursor} {items spare : List ℕ} (r : Room t (record { at = 0 }) items spare)
    (b : Before t (parse_opening (tokens_from t 0)).rest c) where
  opening_less : length (ahead t c) ≤ length (tokens_from t 0)
  opening_less = rw b.tokens (opening_count (tokens_from t 0))

  opening_room : Room t c items spare
  opening_room = room_left r b.wf opening_less refl refl

  pub imports_room : (end : ℕ) {i : Cursor} {items' spare' : List ℕ} → ahead t i ≡ (imports_of end [] (ahead t c)).rest → Wf t i.at
      → length items' ≡ length items → length spare' ≡ length spare → Room t i items' spare'
  imports_room end e f x y = room_left opening_room f (rw e (omega (arith, imports_count (length (ahead t c)) end [] (ahead t c)))) x y

-- The schema: after its comment the imports, then the declarations, and no token is left.
pub schema_judged : {t : Bytes} {end : ℕ} {c : Cursor} {o : Bytes} {at : ℕ} {o₁ : Bytes} {r₁ : ℕ} (i : Cursor) {o₂ : Bytes} {r₂ : ℕ}
    → end ≡ end_of 0 (tokens_from t 0)
    → Before t (parse_opening (tokens_from t 0)).rest c → Wrote o at (errors_bytes (imports_of end [] (ahead t c)).errors) o₁ r₁
    → ahead t i ≡ (imports_of end [] (ahead t c)).rest
    → Wrote o₁ r₁ (errors_bytes (declarations_of end (ahead t i)).errors) o₂ r₂
    → Wrote o at (errors_bytes (parse_schema (tokens_from t 0)).errors) o₂ r₂
schema_judged {t} {end} i e b v j w =
    let is' = imports_of end [] (parse_opening (tokens_from t 0)).rest in
    let ds = declarations_of end is'.rest in
    let k : (parse_schema (tokens_from t 0)).errors ≡ is'.errors ++ ds.errors =
    rw (← e, declarations_rest (length is'.rest) end is'.rest (omega arith)) (end_same (is'.errors ++ ds.errors)) in
    let v' = rw b.tokens at v in
    let w' = rw (j, b.tokens) at w in
    rw k (parts v' w' (sym (errors_append is'.errors ds.errors)))
