-- Refusals are told apart by their numbers, of which none is 0.
use Prim.Native.Nat.{ℕ}
use mathlib.Core.Path.{◌≡◌, refl, sym, ap, ◌∙◌}
use mathlib.Core.List.{List, [], ◌∷◌}
use native.Mathlib.Omega.{arith}
use lib.ListN.{get_or}
use Rattle.wire.specs.Refusal.{number_of}
use Rattle.wire.specs.declared.Refusal.{Refusal}
use Rattle.wire.specs.declared.Refusal.TheVariants.{TableTooLong, RecordCutShort, UnknownKind, WrongPayload, WrongRange, TooManyTokens, TooManyBrackets, NoRoom, NotASchema, NotAName}

-- each at its number
refusals : List Refusal
refusals =
    TableTooLong ∷ TableTooLong ∷ RecordCutShort ∷ UnknownKind ∷ WrongPayload ∷ WrongRange
    ∷ TooManyTokens ∷ TooManyBrackets ∷ NoRoom ∷ NotASchema ∷ NotAName ∷ []

refusal_again : (r : Refusal) → get_or refusals (number_of r) TableTooLong ≡ r
unfolding refusals
refusal_again TableTooLong = refl
refusal_again RecordCutShort = refl
refusal_again UnknownKind = refl
refusal_again WrongPayload = refl
refusal_again WrongRange = refl
refusal_again TooManyTokens = refl
refusal_again TooManyBrackets = refl
refusal_again NoRoom = refl
refusal_again NotASchema = refl
refusal_again NotAName = refl

pub same_refusal : {r s : Refusal} → number_of r ≡ number_of s → r ≡ s
same_refusal {r} {s} e = sym (refusal_again r) ∙ ap (λ (n : ℕ). get_or refusals n TableTooLong) e ∙ refusal_again s

pub number_some : (r : Refusal) → number_of r ≡ 0 → ⊥
number_some TableTooLong e = omega arith
number_some RecordCutShort e = omega arith
number_some UnknownKind e = omega arith
number_some WrongPayload e = omega arith
number_some WrongRange e = omega arith
number_some TooManyTokens e = omega arith
number_some TooManyBrackets e = omega arith
number_some NoRoom e = omega arith
number_some NotASchema e = omega arith
number_some NotAName e = omega arith
