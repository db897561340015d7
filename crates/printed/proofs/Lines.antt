-- The lines of an error list, one record at a time: what the loop over the records keeps.
use Prim.Native.Nat.{ℕ, suc, ◌+◌, ◌/◌, ◌≤◌, ◌<◌}
use mathlib.Core.Path.{◌≡◌, sym, ap, ◌∙◌}
use mathlib.Core.List.{◌++◌}
use native.Mathlib.Omega.{arith}
use lib.ListN.{length, drop, length-append, length-drop}
use lib.Seq.{drop-drop}
use Rattle.std.proofs.Math.Seq.{drop-append_seam}
use Rattle.std.proofs.lemmas.List.{take-append-le, drop-append-le}
use Rattle.wire.specs.Bytes.{Bytes}
use Rattle.wire.specs.Le.{le_at}
use Rattle.wire.specs.Puts.{Puts}
use Rattle.wire.specs.declared.Writer.{Writer}
use Rattle.wire.proofs.Puts.{Rest, rest_all, rest_step, rest_none}
use Rattle.printed.specs.Printed.{error_line, error_lines}

-- a number within a record is the one in the list
number_at : (k j : ℕ) (list error rest : Bytes) (at : ℕ) → drop at list ≡ error ++ rest → j + k ≤ length error → le_at k list (at + j) ≡ le_at k error j
unfolding le_at
number_at k j list error rest at e h =
    let d : drop (at + j) list ≡ drop j error ++ rest = sym (drop-drop j at list) ∙ ap (drop j) e ∙ drop-append-le j error rest (omega arith) in
    rw (d, take-append-le k (drop j error) rest (omega (arith, length-drop j error)))

-- the lines of the records from `at` on are still to be put
pub record Lines (list : Bytes) (w₀ w : Writer) (rest : Bytes) : Type 0 where
  pub at : ℕ
  pub here : drop at list ≡ rest
  pub left : Rest w (error_lines (length rest / 14) list at) w₀ (error_lines (length list / 14) list 0)

pub lines_all : {list rest : Bytes} {w : Writer} → rest ≡ list → Lines list w w rest
lines_all e = record { at = 0; here = sym e; left = rw e rest_all }

pub lines_more : {list : Bytes} (error rest : Bytes) {w₀ w w' : Writer} → Lines list w₀ w (error ++ rest) → length error ≡ 14 → Puts w (error_line error 0) w'
    → Lines list w₀ w' rest
unfolding error_lines
lines_more {list} error rest g l p =
    let n : length (error ++ rest) / 14 ≡ suc (length rest / 14) = omega (arith, length-append error rest) in
    let d : drop 14 (error ++ rest) ≡ rest = rw l at (drop-append_seam error rest) in
    let same = λ (k j : ℕ) (h : j + k ≤ length error). number_at k j list error rest g.at g.here h in
    record {
      at = g.at + 14;
      here = sym (drop-drop 14 g.at list) ∙ ap (drop 14) g.here ∙ d;
      left =
          rest_step p g.left (rw (n, same 2 2 (omega arith), same 4 4 (omega arith), same 4 8 (omega arith), same 2 12 (omega arith)));
    }

-- a record is no longer than the list that it stands in
pub lines_hold : {list : Bytes} (error rest : Bytes) {w₀ w : Writer} → Lines list w₀ w (error ++ rest) → length error ≤ length list
lines_hold {list} error rest g = omega (arith, length-append error rest, ap length g.here, length-drop g.at list)

pub lines_none : {list rest : Bytes} {w₀ w : Writer} → Lines list w₀ w rest → length rest < 14 → Puts w₀ (error_lines (length list / 14) list 0) w
unfolding error_lines
lines_none {rest = rest} g h =
    let n : length rest / 14 ≡ 0 = omega arith in
    rest_none g.left (rw n)
