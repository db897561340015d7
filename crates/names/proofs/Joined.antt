-- Two names and their joined name: its length, and its three parts written one after the other.
use mathlib.Core.Path.{◌≡◌, refl, sym, ◌∙◌}
use mathlib.Core.Bool.{Bool, true, false, ◌&&◌, and-eq-true_iff}
use mathlib.Core.List.{[], ◌∷◌}
use Prim.Native.Nat.{◌+◌, ◌<◌, ◌≤◌}
use native.Mathlib.Omega.{arith}
use lib.Dec.{leb}
use lib.ListN.{length, length-append}
use Rattle.std.specs.Prelude.{Ok, Err}
use borrow.Author.Tests.{leb-true}
use Rattle.wire.specs.Bytes.{Bytes}
use Rattle.wire.specs.Puts.{Puts}
use Rattle.wire.specs.Refusal.{refused_by}
use Rattle.wire.specs.declared.Writer.{Writer}
use Rattle.wire.specs.declared.Refused.{Refused}
use Rattle.wire.specs.declared.Refusal.TheVariants.{NoRoom}
use Rattle.wire.proofs.Puts.{parts, then}
use Rattle.identifier.specs.Name.{is_name}
use Rattle.identifier.specs.Join.{join_of}
use Rattle.names.specs.Answer.{Answers, is_joinable}
use Rattle.names.proofs.Answers.{too_big, put_all}

module _ (a b : Bytes) where
  join_length : length (join_of a b) ≡ length a + 1 + length b
  unfolding join_of
  join_length = rw length-append (omega arith)

  fits_same : leb (length a + 1 + length b) 128 ≡ leb (length (join_of a b)) 128
  fits_same = rw join_length

  module _ {k : Bool} (e : k ≡ (is_name a && is_name b)) where
    pub joinable : k ≡ true → leb (length a + 1 + length b) 128 ≡ is_joinable a b
    unfolding is_joinable
    joinable t = rw (← e, t) fits_same

    pub unjoinable : k ≡ false → false ≡ is_joinable a b
    unfolding is_joinable
    unjoinable f = rw (← e, f)

  pub join_short : {k : Bool} → k ≡ is_joinable a b → k ≡ true → length a + 1 + length b ≤ 128
  unfolding is_joinable
  join_short e t =
      let both = (and-eq-true_iff (is_name a && is_name b) (leb (length (join_of a b)) 128)).0 (sym e ∙ t) in
      leb-true (length a + 1 + length b) 128 (fits_same ∙ both.1)

  pub join_too_big : {o : Bytes} {refused : Refused} → refused ≡ refused_by NoRoom → length o < length a + 1 + length b
      → Answers true (join_of a b) o o (Err refused)
  join_too_big r h = too_big r (rw join_length h)

  pub join_put : {o o' : Bytes} {w₀ w₁ w₂ w₃ : Writer} → w₀.at ≡ 0 → w₀.out.now ≡ o → o' ≡ w₃.out.now → length a + 1 + length b ≤ length o
      → length o ≤ 18446744073709551615
      → Puts w₀ a w₁ → Puts w₁ (95 ∷ []) w₂ → Puts w₂ b w₃ → Answers true (join_of a b) o o' (Ok w₃.at)
  unfolding join_of
  join_put z e e' h k u v w = put_all z e e' (rw join_length h) k (parts u (then v w) refl)
