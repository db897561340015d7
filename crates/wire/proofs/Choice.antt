-- What a definition by tests says where the tests are known: `search choice` at a goal `r ≡ pick test a b` finds the facts in the place's record.
use mathlib.Core.Path.{◌≡◌, refl}
use mathlib.Core.Bool.{Bool, true, false, ◌&&◌}
use borrow.Author.Tests.{lt-ltb, le-ltb, le-leb, lt-leb, eq-eqb, ne_eqb, not-true, not-false}
use Rattle.wire.specs.Pick.{pick}

pub pick_yes {ℓ} : {A : Type ℓ} (b : Bool) (r x y : A) → b ≡ true → r ≡ x → r ≡ pick b x y
unfolding pick
pick_yes b r x y e h = rw e h

pub pick_no {ℓ} : {A : Type ℓ} (b : Bool) (r x y : A) → b ≡ false → r ≡ y → r ≡ pick b x y
unfolding pick
pick_no b r x y e h = rw e h

pub and_yes : (b r x : Bool) → b ≡ true → r ≡ x → r ≡ (b && x)
and_yes b r x e h = rw e h

pub and_no : (b r x : Bool) → b ≡ false → r ≡ false → r ≡ (b && x)
and_no b r x e h = rw e h

-- where the test of a choice is such a test itself
pub and_is : (b x : Bool) → b ≡ true → x ≡ true → (b && x) ≡ true
and_is b x e h = rw e h

pub and_first : (b x : Bool) → b ≡ false → (b && x) ≡ false
and_first b x e = rw e

pub and_second : (b x : Bool) → x ≡ false → (b && x) ≡ false
and_second true x e = e
and_second false x e = refl

pub ruleset choice = (pick_yes, pick_no, and_yes, and_no, and_is, and_first, and_second, lt-ltb, le-ltb, le-leb, lt-leb, eq-eqb, ne_eqb, not-true, not-false)
