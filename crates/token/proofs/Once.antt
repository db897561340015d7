-- One answer of the check has one number.
use mathlib.Core.Path.{◌≡◌, ap, ◌∙◌}
use Prim.Native.Nat.{ℕ}
use Rattle.std.specs.Prelude.{Result, Ok, Err}
use Rattle.wire.specs.declared.Refusal.{Refusal}
use Rattle.wire.specs.declared.Refused.{Refused}
use Rattle.wire.proofs.Refusals.{same_refusal}
use Rattle.token.specs.declared.Checked.{Checked}
use Rattle.token.specs.Checked.{Told, numbered}

same_refused : {n m a b : ℕ} → ◌≡◌ {A = Told} (Told.refused n a) (Told.refused m b) → (n ≡ m) × (a ≡ b)
same_refused h = (cc, cc)

abbrev checked_of : ℕ → ℕ → Result Checked Refused
checked_of count end = Ok (record { count = count; end = end })

abbrev refused_of : Refusal → ℕ → Result Checked Refused
refused_of refusal offset = Err (record { refusal = refusal; offset = offset })

pub numbered_once : (a b : Result Checked Refused) → numbered a ≡ numbered b → a ≡ b
numbered_once (Ok a) (Ok b) h =
    let c : a.count ≡ b.count = cc in
    let e : a.end ≡ b.end = cc in
    ap (λ (n : ℕ). checked_of n a.end) c ∙ ap (checked_of b.count) e
numbered_once (Ok a) (Err b) h = cc
numbered_once (Err a) (Ok b) h = cc
numbered_once (Err a) (Err b) h =
    let s = same_refused h in
    let r : a.refusal ≡ b.refusal = same_refusal s.0 in
    ap (λ (r : Refusal). refused_of r a.offset) r ∙ ap (refused_of b.refusal) s.1
