-- The theorems on document 01's namespaces, and examples computed.
use mathlib.Core.Path.{◌≡◌, refl}
use mathlib.Core.Bool.{Bool, true, false}
use mathlib.Core.List.{List, [], ◌∷◌, ◌++◌}
use Prim.Native.Nat.{ℕ, zero, suc, ◌<◌, ◌≤◌}
use native.Mathlib.Omega.{arith}
use lib.ListN.{length, get_or, take, drop, length-drop, take-append-drop}
use Rattle.wire.specs.Bytes.{Bytes, bytes}
use Rattle.wire.specs.Le.{le_at, le_number}
use Rattle.wire.specs.Pick.{pick}
use Rattle.identifier.specs.Byte.{lower_of}
use Rattle.identifier.specs.Name.{is_name}
use Rattle.identifier.specs.Forms.{snake_of}
use Rattle.identifier.specs.Order.{same_name, name_order}
use Rattle.names.specs.Namespace.{first_name, after_name, starts_name, is_namespace, names_of}
use Rattle.names.specs.Namespace.{after_names, text_of, common, common_of, relative_of, steps_up}
use Rattle.names.proofs.Walk.{Holds, none, more, holds, holds_names, few}

-- k names are the common start of two namespaces: they are the same, and the next two, where there are two, are not
pub record CommonStart (xs ys : List Bytes) (k : ℕ) : Type 0 where
  pub same : (i : ℕ) → i < k → same_name (get_or xs i []) (get_or ys i []) ≡ true
  pub longest : k < length xs → k < length ys → same_name (get_or xs k []) (get_or ys k []) ≡ false
  pub inside : (k ≤ length xs) × (k ≤ length ys)

common_start : (xs ys : List Bytes) → CommonStart xs ys (common xs ys)
common_start [] ys = record { same = λ i h. absurd (omega arith); longest = λ h k. absurd (omega arith); inside = (omega arith, omega arith) }
common_start (x ∷ xs) [] = record { same = λ i h. absurd (omega arith); longest = λ h k. absurd (omega arith); inside = (omega arith, omega arith) }
common_start (x ∷ xs) (y ∷ ys) = go (same_name x y) refl (common_start xs ys)
  where
    go : (b : Bool) → same_name x y ≡ b → CommonStart xs ys (common xs ys) → CommonStart (x ∷ xs) (y ∷ ys) (common (x ∷ xs) (y ∷ ys))
    go true e c =
        let k : common (x ∷ xs) (y ∷ ys) ≡ suc (common xs ys) = rw (e, common) in
        rw k (record {
          same = below;
          longest = λ h l. c.longest (omega arith) (omega arith);
          inside = (omega (arith, c.inside.0), omega (arith, c.inside.1));
        })
      where
        below : (i : ℕ) → i < suc (common xs ys) → same_name (get_or (x ∷ xs) i []) (get_or (y ∷ ys) i []) ≡ true
        below zero h = e
        below (suc i) h = c.same i (omega arith)
    go false e c =
        let k : common (x ∷ xs) (y ∷ ys) ≡ 0 = rw (e, common) in
        rw k (record { same = λ i h. absurd (omega arith); longest = λ h l. e; inside = (omega arith, omega arith) })

pub common_start_of : (a b : Bytes) → CommonStart (names_of a) (names_of b) (common_of a b)
unfolding common_of
common_start_of a b = common_start (names_of a) (names_of b)

after_holds : (k : ℕ) {bs : Bytes} {names : List Bytes} → Holds bs names → k ≤ length names → Holds (after_names k bs) (drop k names)
after_holds zero h l = h
after_holds (suc k) none l = absurd (omega arith)
after_holds (suc k) (more s r) l = after_holds k r (omega arith)

-- what relativizing lays out are the first namespace's names after the common start; put in front, that start gives the namespace back
pub relative_names : (a b : Bytes) → is_namespace a ≡ true → names_of (relative_of a b) ≡ drop (common_of a b) (names_of a)
unfolding is_namespace names_of relative_of
relative_names a b e =
    (holds_names 64 (after_holds (common_of a b) (holds 64 a e) (common_start_of a b).inside.0)
    (omega (arith, length-drop (common_of a b) (names_of a), few 64 a))).1

pub given_back : (a b : Bytes) → is_namespace a ≡ true → take (common_of a b) (names_of a) ++ names_of (relative_of a b) ≡ names_of a
given_back a b e = rw (relative_names a b e) (take-append-drop (common_of a b) (names_of a))

-- foo, barBaz; its text; cut short in a name and in a length
abbrev foo_bar : Bytes
foo_bar = 3 ∷ 0 ∷ bytes "foo" ++ 6 ∷ 0 ∷ bytes "barBaz"

text : text_of foo_bar ≡ bytes "foo.bar_baz"
unfolding text_of names_of first_name after_name le_at le_number snake_of lower_of pick
text = refl

good : (is_namespace [] ≡ true) × (is_namespace foo_bar ≡ true)
unfolding is_namespace starts_name first_name after_name is_name le_at le_number
good = (refl, refl)

cut_short : (is_namespace (3 ∷ 0 ∷ bytes "fo") ≡ false) × (is_namespace (3 ∷ []) ≡ false)
unfolding is_namespace starts_name first_name after_name is_name le_at le_number
cut_short = (refl, refl)

-- against Foo, x, y: barBaz is left, two steps up
abbrev foo_x_y : Bytes
foo_x_y = 3 ∷ 0 ∷ bytes "Foo" ++ 1 ∷ 0 ∷ bytes "x" ++ 1 ∷ 0 ∷ bytes "y"

relative : (relative_of foo_bar foo_x_y ≡ 6 ∷ 0 ∷ bytes "barBaz") × (steps_up foo_bar foo_x_y ≡ 2)
unfolding relative_of steps_up common_of names_of first_name after_name same_name name_order le_at le_number snake_of lower_of pick
relative = (refl, refl)

-- 64 names, and a 65th
abbrev many : ℕ → Bytes
many zero = []
many (suc n) = 1 ∷ 0 ∷ 97 ∷ many n

limit : (is_namespace (many 64) ≡ true) × (is_namespace (many 65) ≡ false)
unfolding is_namespace starts_name first_name after_name is_name le_at le_number
limit = (refl, refl)
