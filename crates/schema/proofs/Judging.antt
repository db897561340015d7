-- The check, record by record.
use Prim.Native.Nat.{ℕ, ◌≤◌, ◌<◌}
use mathlib.Core.Path.{◌≡◌, refl, sym, ◌∙◌}
use mathlib.Core.Bool.{Bool, true, false, ◌&&◌, and-false, and-eq-true_iff}
use mathlib.Core.List.{List, [], ◌∷◌}
use mathlib.Core.Logic.{◌⊎◌}
use native.Mathlib.Omega.{arith}
use borrow.Author.Tests.{ne_eqb}
use lib.ListN.{length, length-drop}
use Rattle.wire.specs.Bytes.{Bytes}
use Rattle.wire.specs.Pick.{pick}
use Rattle.token.specs.Token.{Token}
use Rattle.token.specs.Table.{size_of, is_whole}
use Rattle.token.specs.Split.{held, SplitsRecord}
use Rattle.token.specs.declared.Record.{Record}
use Rattle.token.proofs.Records.{fits}
use Rattle.schema.specs.Kind.{s_import}
use Rattle.schema.specs.Payload.{is_sized, is_named, is_import, is_type_payload, is_payload}
use Rattle.schema.specs.Table.{records_of, is_framed, may_follow, row_after, is_next, are_next, seen, Adds, is_schema_table}
use Rattle.schema.proofs.Parts.{named_sized}
use Rattle.schema.proofs.Records.{Whole, framed_not, framed_step, records_step}

-- the next record is judged by the last one's kind and payload alone
next_seen : (last : Token) (row : ℕ) (rs : List Token) → are_next last row rs ≡ are_next (seen last.kind last.payload) row rs
unfolding is_next
next_seen last row [] = refl
next_seen last row (r ∷ rs) = refl

pub payload_unknown : (k : ℕ) (p : Bytes) → (k < 101) ⊎ (109 < k) → is_payload k p ≡ false
unfolding is_payload is_type_payload pick
payload_unknown k p h =
    rw (
      ne_eqb k 101 (λ e. omega arith),
      ne_eqb k 102 (λ e. omega arith),
      ne_eqb k 103 (λ e. omega arith),
      ne_eqb k 104 (λ e. omega arith),
      ne_eqb k 105 (λ e. omega arith),
      ne_eqb k 106 (λ e. omega arith),
      ne_eqb k 107 (λ e. omega arith),
      ne_eqb k 108 (λ e. omega arith),
      ne_eqb k 109 (λ e. omega arith),
    )

-- an import that is right has a name after its length
pub import_sized : (k : ℕ) (p : Bytes) → is_payload k p ≡ true → k ≡ s_import → is_sized p ≡ true
unfolding is_payload pick is_import
import_sized k p e i =
    let b : is_import p ≡ true = rw i at e in
    named_sized p ((and-eq-true_iff (is_named p) _).0 b).0

pub ruleset of_payloads = (import_sized, payload_unknown)

-- these bytes are left of a table, after a record of this kind and payload and `row` arrays, and r is the verdict on the table
pub record Judging (rest : Bytes) (kind : ℕ) (payload : Bytes) (row : ℕ) (r : Bool) : Type 0 where
  pub shallow : row ≤ 64
  pub sized : kind ≡ s_import → is_sized payload ≡ true
  pub left : (is_framed rest && are_next (seen kind payload) row (records_of rest)) ≡ r

pub judging : (t : Bytes) → Judging t 0 [] 0 (is_schema_table t)
unfolding is_schema_table
judging t = record { shallow = omega arith; sized = λ e. absurd (omega arith); left = refl }

module _ {rest : Bytes} {kind : ℕ} {payload : Bytes} {row : ℕ} {r : Bool} (j : Judging rest kind payload row r) where
  pub judged_end : length rest ≡ 0 → may_follow kind 0 ≡ r
  unfolding is_framed records_of
  judged_end h = go rest j h
    where
      go : (rest : Bytes) → Judging rest kind payload row r → length rest ≡ 0 → may_follow kind 0 ≡ r
      go [] j h = j.left
      go (b ∷ bs) j h = absurd (omega arith)

  pub judged_cut : 0 < length rest → is_whole rest ≡ false → false ≡ r
  judged_cut h e = rw (framed_not rest h e) at j.left

  module _ {v : Record} {after : Bytes} (s : SplitsRecord rest v after) where
    whole : Whole rest
    whole = fits rest s.whole

    judged_step : (is_framed after && (is_next (seen kind payload) row (held v) && are_next (held v) (row_after row v.kind) (records_of after))) ≡ r
    judged_step = rw (← s.first, ← s.later) at (rw (framed_step rest whole, records_step rest whole) at j.left)

    pub judged_wrong : is_next (seen kind payload) row (held v) ≡ false → false ≡ r
    judged_wrong e = sym (and-false (is_framed after)) ∙ rw e at judged_step

    pub judged_less : length after < length rest
    judged_less = let w = whole in let l = length-drop (size_of rest) rest in rw s.later (omega (arith, w.head, w.tail))

    pub judged_next : {kind' : ℕ} {payload' : Bytes} {row' : ℕ} → Adds (seen kind payload) row (held v) kind' payload' row' → row' ≤ 64
        → (kind' ≡ s_import → is_sized payload' ≡ true) → Judging after kind' payload' row' r
    judged_next a l z =
        record {
          shallow = l;
          sized = z;
          left = rw (a.is, a.holds, a.arrays) (rw (a.right, next_seen (held v) (row_after row v.kind) (records_of after)) at judged_step);
        }
