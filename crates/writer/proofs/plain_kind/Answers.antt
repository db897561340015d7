-- `writer::plain_kind` meets its contract: the number of a plain type is a kind's.
use Rattle.std.proofs.Common.{◌≡◌, ◌<◌, ◌⊎◌, refl, inl, inr, ◌≤◌, ℕ, true, false, eqb, arith}
use Rattle.std.specs.Prelude.{Result, Ok, Err, IsOk}
use borrow.Author.Tests.{ne_eqb}
use Rattle.token.specs.Kind.{is_plain}
use Rattle.token.specs.Kinds.{Decodes}
use Rattle.token.specs.declared.kind.Kind.{Kind}
use Rattle.token.specs.declared.kind.UnknownKind.{UnknownKind}
use Rattle.text.proofs.Parts.{plain_size, plain_number}
use Rattle.writer.proofs.plain_kind.Goals as goal

other : (n : ℕ) → is_plain n ≡ true → (n ≡ 0) ⊎ (25 < n) → ⊥
other n e (inl z) = let f : ◌≡◌ {A = ℕ} 0 1 = cc (rw z at e) in omega arith
other n e (inr h) =
    let no : (k : ℕ) → k ≤ 25 → eqb n k ≡ false = λ k l. ne_eqb n k (λ q. omega arith) in
    let low = (rw (no 3 (omega arith), no 4 (omega arith), no 11 (omega arith), no 21 (omega arith), no 22 (omega arith)) at e) in
    let f : ◌≡◌ {A = ℕ} 0 1 = cc (rw (no 24 (omega arith), no 25 (omega arith)) at low) in
    omega arith

decodes : (n : ℕ) (r : Result Kind UnknownKind) → is_plain n ≡ true → Decodes n r → IsOk r
decodes n (Ok kind) e d = refl
decodes n (Err u) e d = absurd (other n e d.1)

pub u16_at-requires : goal.u16_at-requires
u16_at-requires c = omega (arith, plain_size _ c.requires)

pub unwrap-requires : goal.unwrap-requires
unwrap-requires c = decodes _ _ (plain_number _ c.requires) (rw c.u16_at.ensures at c.try_from.ensures)
