-- `text::put_plain_of_kind` meets its contract.
use mathlib.Core.Path.{◌≡◌, refl}
use Rattle.wire.specs.Bytes.{bytes}
use Rattle.wire.specs.Pick.{pick}
use Rattle.token.specs.Kinds.{number_of}
use Rattle.token.specs.declared.kind.Kind.{Kind}
use Rattle.token.specs.declared.kind.Kind.TheVariants.{Bool, Bytes, F64, S64, String, U64}
use Rattle.text.specs.Text.{plain_text}
use Rattle.text.proofs.put_plain_of_kind.Goals as goal

other_text : (k : Kind) → (k ≡ Bool → ⊥) → (k ≡ Bytes → ⊥) → (k ≡ F64 → ⊥) → (k ≡ S64 → ⊥) → (k ≡ String → ⊥) → (k ≡ U64 → ⊥)
    → plain_text (number_of k) ≡ bytes "Unit"
unfolding plain_text pick
other_text Bool a b c d e f = absurd (a refl)
other_text Bytes a b c d e f = absurd (b refl)
other_text F64 a b c d e f = absurd (c refl)
other_text S64 a b c d e f = absurd (d refl)
other_text String a b c d e f = absurd (e refl)
other_text U64 a b c d e f = absurd (f refl)
other_text _ a b c d e f = refl

pub returns-in-Bool : goal.returns-in-Bool
unfolding plain_text pick
returns-in-Bool c = rw c.in-Bool.is c.put_slice.ensures

pub returns-in-Bytes : goal.returns-in-Bytes
unfolding plain_text pick
returns-in-Bytes c = rw c.in-Bytes.is c.put_slice-in-Bytes.ensures

pub returns-in-F64 : goal.returns-in-F64
unfolding plain_text pick
returns-in-F64 c = rw c.in-F64.is c.put_slice-in-F64.ensures

pub returns-in-S64 : goal.returns-in-S64
unfolding plain_text pick
returns-in-S64 c = rw c.in-S64.is c.put_slice-in-S64.ensures

pub returns-in-String : goal.returns-in-String
unfolding plain_text pick
returns-in-String c = rw c.in-String.is c.put_slice-in-String.ensures

pub returns-in-U64 : goal.returns-in-U64
unfolding plain_text pick
returns-in-U64 c = rw c.in-U64.is c.put_slice-in-U64.ensures

pub returns-in_default : goal.returns-in_default
returns-in_default c =
    let o = c.in_default in
    rw (other_text _ o.not-Bool o.not-Bytes o.not-F64 o.not-S64 o.not-String o.not-U64) c.put_slice-in_default.ensures
