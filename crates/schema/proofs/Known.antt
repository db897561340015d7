-- A kind and its number tell one another.
use Prim.Native.Nat.{ℕ, ◌+◌}
use mathlib.Core.Path.{◌≡◌, refl, sym, ◌∙◌}
use mathlib.Core.Bool.{true, false}
use native.Mathlib.Omega.{arith}
use borrow.Author.Tests.{ne_eqb}
use denote.Enum.Bare.{sameb, tag_one, same_true, same_false}
use denote.Enum.Declared.{tag_of}
use lib.Dec.{eqb}
use Rattle.schema.specs.Kinds.{number_of}
use Rattle.schema.specs.contracts.kind.Kind.{the_type}
use Rattle.schema.specs.declared.kind.Kind.{Kind}
use Rattle.schema.specs.declared.kind.Kind.TheVariants.{Comment, Import, Struct, Choice, Field, Deleted, Array, Plain, Custom}

number_is : (kind : Kind) → number_of kind ≡ tag_of the_type kind + 101
number_is Comment = refl
number_is Import = refl
number_is Struct = refl
number_is Choice = refl
number_is Field = refl
number_is Deleted = refl
number_is Array = refl
number_is Plain = refl
number_is Custom = refl

pub one_kind : (kind other : Kind) → number_of kind ≡ number_of other → kind ≡ other
one_kind kind other e = tag_one the_type tt kind other (omega (arith, number_is kind, number_is other, e))

pub not_kind : (kind other : Kind) → (kind ≡ other → ⊥) → eqb (number_of kind) (number_of other) ≡ false
not_kind kind other n = ne_eqb _ _ (λ e. n (one_kind kind other e))

-- a kind's number, where a test told the kind from another or found them the same
module _ (kind other : Kind) {n : ℕ} (e : number_of kind ≡ n) where
  pub same : true ≡ sameb the_type kind other → n ≡ number_of other
  same t = sym e ∙ rw (same_true the_type tt kind other (sym t))

  pub differs : false ≡ sameb the_type kind other → n ≡ number_of other → ⊥
  differs t q = same_false the_type kind other (sym t) (one_kind kind other (e ∙ q))
