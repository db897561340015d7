-- The numbers that a token table is refused with: 1 to 7. And the refusals of those and of 8.
use Prim.Native.Nat.{ℕ, zero, suc, ◌+◌, ◌≤◌}
use mathlib.Core.Path.{◌≡◌, refl, sym, ◌∙◌}
use mathlib.Core.Bool.{Bool, true, false}
use mathlib.Core.List.{List, [], ◌∷◌}
use native.Mathlib.Omega.{arith}
use native.Mathlib.Numerals.{sub-one}
use lib.Dec.{ltb}
use lib.ListN.{length, drop}
use Rattle.wire.specs.Bytes.{Bytes}
use Rattle.wire.specs.Pick.{pick}
use Rattle.wire.specs.Refusal.{number_of}
use Rattle.wire.specs.declared.Refusal.{Refusal}
use Rattle.wire.specs.declared.Refusal.TheVariants.{TableTooLong, RecordCutShort, UnknownKind, WrongPayload, WrongRange}
use Rattle.wire.specs.declared.Refusal.TheVariants.{TooManyTokens, TooManyBrackets, NoRoom}
use Rattle.wire.proofs.Choice.{choice}
use Rattle.token.specs.Token.{Token}
use Rattle.token.specs.Table.{Decoded, refused, tokens, size_of, token_of, row_after, token_fault, fault_of, add_token, decode_from, decode}
use Rattle.token.proofs.Records.{decode_end, decode_full, decode_bad, decode_next}

same_number : {a b c d : ℕ} → ◌≡◌ {A = Decoded} (refused a b) (refused c d) → a ≡ c
same_number h = cc

tokens≢refused : {ts : List Token} {n at : ℕ} → ◌≡◌ {A = Decoded} (tokens ts) (refused n at) → ⊥
tokens≢refused h = cc

fault_small : (last row : ℕ) (bs : Bytes) → fault_of last row bs ≤ 7
unfolding fault_of token_fault
fault_small last row bs = search (choice, arith)

add_refused : (t : Token) (d : Decoded) {n at : ℕ} → add_token t d ≡ refused n at → d ≡ refused n at
add_refused t (refused k o) h = h
add_refused t (tokens ts) h = absurd (tokens≢refused h)

from_number : (n at last row : ℕ) (bs : Bytes) {k o : ℕ} → decode_from n at last row bs ≡ refused k o → (1 ≤ k) × (k ≤ 7)
from_number zero at last row [] h = absurd (tokens≢refused (sym (decode_end at last row 0) ∙ h))
from_number (suc n) at last row [] h = absurd (tokens≢refused (sym (decode_end at last row (suc n)) ∙ h))
from_number zero at last row (b ∷ bs) h = let e = same_number (sym (decode_full at last row (b ∷ bs) (omega arith)) ∙ h) in (omega arith, omega arith)
from_number (suc n) at last row (b ∷ bs) {k} {o} h = go (fault_of last row x) refl (fault_small last row x) λ e. from_number n _ _ _ (drop (size_of x) x) e
  where
    x : Bytes
    x = b ∷ bs

    go : (f : ℕ) → f ≡ fault_of last row x → fault_of last row x ≤ 7
        → (decode_from n (at + size_of x) (token_of x).end (row_after row (token_of x).kind) (drop (size_of x) x) ≡ refused k o → (1 ≤ k) × (k ≤ 7))
        → (1 ≤ k) × (k ≤ 7)
    go zero e l ih =
        let q = sym (decode_next at last row (suc n) x (λ z. omega arith) (omega arith) (sym e)) ∙ h in
        ih (add_refused (token_of x) _ (rw sub-one at q))
    go (suc f) e l ih =
        let q = same_number (sym (decode_bad at last row (suc n) x (λ z. omega arith) (omega arith) (suc f) e (λ z. omega arith)) ∙ h) in
        (omega arith, omega arith)

pub refused_number : (table : Bytes) {n offset : ℕ} → decode table ≡ refused n offset → (1 ≤ n) × (n ≤ 7)
unfolding decode pick
refused_number table {n} {offset} h = go (ltb 65536 (length table)) refl
  where
    go : (b : Bool) → ltb 65536 (length table) ≡ b → (1 ≤ n) × (n ≤ 7)
    go true e = let q = same_number (rw e at h) in (omega arith, omega arith)
    go false e = from_number 4096 0 0 0 table (rw e at h)

pub refusal_of : (n : ℕ) → 1 ≤ n → n ≤ 8 → (r : Refusal) × (number_of r ≡ n)
refusal_of zero l m = absurd (omega arith)
refusal_of (suc zero) l m = (TableTooLong, refl)
refusal_of (suc (suc zero)) l m = (RecordCutShort, refl)
refusal_of (suc (suc (suc zero))) l m = (UnknownKind, refl)
refusal_of (suc (suc (suc (suc zero)))) l m = (WrongPayload, refl)
refusal_of (suc (suc (suc (suc (suc zero))))) l m = (WrongRange, refl)
refusal_of (suc (suc (suc (suc (suc (suc zero)))))) l m = (TooManyTokens, refl)
refusal_of (suc (suc (suc (suc (suc (suc (suc zero))))))) l m = (TooManyBrackets, refl)
refusal_of (suc (suc (suc (suc (suc (suc (suc (suc zero)))))))) l m = (NoRoom, refl)
refusal_of (suc (suc (suc (suc (suc (suc (suc (suc (suc n))))))))) l m = absurd (omega arith)
