-- A kind and its number tell one another.
use Prim.Native.Nat.{ℕ, ◌+◌, ◌≤◌, ◌<◌}
use mathlib.Core.Path.{◌≡◌, refl, sym, ◌∙◌}
use mathlib.Core.Bool.{true, false}
use native.Mathlib.Omega.{arith}
use borrow.Author.Tests.{ne_eqb}
use denote.Enum.Bare.{sameb, tag_one, same_true, same_false}
use denote.Enum.Declared.{tag_of}
use lib.Dec.{eqb}
use Rattle.token.specs.Kinds.{number_of, Decodes}
use Rattle.std.specs.Prelude.{Result, Ok, Err, IsOk}
use Rattle.token.specs.contracts.kind.Kind.{the_type}
use Rattle.token.specs.declared.kind.Kind.{Kind}
use Rattle.token.specs.declared.kind.Kind.TheVariants.{As, Asymmetric, Bool, Bytes, Choice, Colon, Comment, Deleted, Dot, Equals, F64, Identifier, Import, Integer, LeftCurly, LeftSquare, Optional, Path, RightCurly, RightSquare, S64, String, Struct, U64, Unit as UnitKind}
use Rattle.token.specs.declared.kind.UnknownKind.{UnknownKind}

pub decodes : (n : ℕ) (r : Result Kind UnknownKind) → Decodes n r → 0 < n → n ≤ 25 → IsOk r
decodes n (Ok kind) d a b = refl
decodes n (Err e) d a b = absurd (omega arith)

number_is : (kind : Kind) → number_of kind ≡ tag_of the_type kind + 1
number_is As = refl
number_is Asymmetric = refl
number_is Bool = refl
number_is Bytes = refl
number_is Choice = refl
number_is Colon = refl
number_is Comment = refl
number_is Deleted = refl
number_is Dot = refl
number_is Equals = refl
number_is F64 = refl
number_is Identifier = refl
number_is Import = refl
number_is Integer = refl
number_is LeftCurly = refl
number_is LeftSquare = refl
number_is Optional = refl
number_is Path = refl
number_is RightCurly = refl
number_is RightSquare = refl
number_is S64 = refl
number_is String = refl
number_is Struct = refl
number_is U64 = refl
number_is UnitKind = refl

pub some_kind : (kind : Kind) → 0 < number_of kind
some_kind kind = omega (arith, number_is kind)

pub one_kind : (kind other : Kind) → number_of kind ≡ number_of other → kind ≡ other
one_kind kind other e = tag_one the_type tt kind other (omega (arith, number_is kind, number_is other, e))

pub not_kind : (kind other : Kind) → (kind ≡ other → ⊥) → eqb (number_of kind) (number_of other) ≡ false
not_kind kind other n = ne_eqb _ _ (λ e. n (one_kind kind other e))

-- a kind's number, where a test told the kind from another or found them the same
module _ (kind other : Kind) {n : ℕ} (e : number_of kind ≡ n) where
  pub same : true ≡ sameb the_type kind other → n ≡ number_of other
  same t = sym e ∙ rw (same_true the_type tt kind other (sym t))

  pub differs : false ≡ sameb the_type kind other → n ≡ number_of other → ⊥
  differs t q = same_false the_type kind other (sym t) (one_kind kind other (e ∙ q))
