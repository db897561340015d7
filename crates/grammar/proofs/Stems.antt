-- A stem is a part of its path: no longer, and its bytes pass what the path's pass. So it is a name where there is one.
use Prim.Native.Nat.{ℕ, zero, suc, ◌≤◌}
use mathlib.Core.Path.{◌≡◌, refl}
use mathlib.Core.Bool.{Bool, true, false, not, and-eq-true_iff}
use mathlib.Core.List.{List, [], ◌∷◌}
use native.Mathlib.Omega.{arith}
use lib.Dec.{eqb, leb}
use lib.ListN.{length, take}
use borrow.Author.Tests.{leb-true, le-leb, eqb-false}
use Rattle.wire.specs.Bytes.{Bytes}
use Rattle.wire.specs.Pick.{pick}
use Rattle.identifier.specs.Byte.{is_printable}
use Rattle.identifier.specs.Name.{all, is_name}
use Rattle.stem.specs.Stem.{parts, kept, last_kept, last_part, is_parent, last_dot, cut, stem_of}
use Rattle.token.specs.Payload.{is_path_byte, is_path}
use Rattle.grammar.specs.Tree.{All}

-- at most n bytes, each of which passes f
pub record Part (f : ℕ → Bool) (n : ℕ) (bs : Bytes) : Type 0 where
  pub short : length bs ≤ n
  pub good : all f bs ≡ true

picked : {f : ℕ → Bool} {n : ℕ} {a b : Bytes} (x : Bool) → Part f n a → Part f n b → Part f n (pick x a b)
unfolding pick
picked true p q = p
picked false p q = q

nothing : {f : ℕ → Bool} {n : ℕ} → Part f n []
nothing = record { short = omega arith; good = refl }

module _ (f : ℕ → Bool) where
  taken : (n k : ℕ) (bs : Bytes) → Part f n bs → Part f n (take k bs)
  taken n zero bs p = nothing
  taken n (suc k) [] p = nothing
  taken zero (suc k) (b ∷ bs) p = absurd (omega (arith, p.short))
  taken (suc n) (suc k) (b ∷ bs) p =
      let q = (and-eq-true_iff (f b) (all f bs)).0 p.good in
      let i = taken n k bs (record { short = omega (arith, p.short); good = q.1 }) in
      record { short = omega (arith, i.short); good = rw q.0 i.good }

  -- the first part is no longer than the path, and the others than n
  parts_part : (n : ℕ) (path : Bytes) → Part f n path → Part f (length path) (parts path).first × All (Part f n) (parts path).later
  parts_part n [] p = (nothing, tt)
  parts_part n (b ∷ bs) p =
      let q = (and-eq-true_iff (f b) (all f bs)).0 p.good in
      go (eqb b 47) refl q.0 (parts_part n bs (record { short = omega (arith, p.short); good = q.1 }))
    where
      go : (x : Bool) → eqb b 47 ≡ x → f b ≡ true → Part f (length bs) (parts bs).first × All (Part f n) (parts bs).later
          → Part f (suc (length bs)) (parts (b ∷ bs)).first × All (Part f n) (parts (b ∷ bs)).later
      go true e h i = rw (e, parts) (nothing, (record { short = omega (arith, i.0.short, p.short); good = i.0.good }, i.1))
      go false e h i = rw (e, parts) (record { short = omega (arith, i.0.short); good = rw h i.0.good }, i.1)

  kept_part : {n : ℕ} (best : Bytes) (ps : List Bytes) → Part f n best → All (Part f n) ps → Part f n (last_kept best ps)
  kept_part best [] b a = b
  kept_part best (p ∷ ps) b a = kept_part (pick (kept p) p best) ps (picked (kept p) a.0 b) a.1

  pub stem_part : (n : ℕ) (path : Bytes) → Part f n path → Part f n (stem_of path)
  unfolding stem_of last_part cut
  stem_part n path p =
      let q = parts_part n path p in
      let l = kept_part [] ((parts path).first ∷ (parts path).later) nothing (record { short = omega (arith, q.0.short, p.short); good = q.0.good }, q.1) in
      let last = last_part path in
      picked (is_parent last) nothing (picked (eqb (last_dot 0 0 last) 0) l (taken n (last_dot 0 0 last) last l))

path_bytes : (p : Bytes) → all is_path_byte p ≡ true → all is_printable p ≡ true
path_bytes [] e = refl
path_bytes (b ∷ p) e =
    let q = (and-eq-true_iff (is_path_byte b) (all is_path_byte p)).0 e in
    rw ((and-eq-true_iff (is_printable b) (not (eqb b 39))).0 q.0).0 (path_bytes p q.1)

pub path_part : (path : Bytes) → is_path path ≡ true → Part is_printable 128 path
unfolding is_path
path_part path e =
    let q = (and-eq-true_iff (leb (length path) 128) (all is_path_byte path)).0 e in
    record { short = leb-true (length path) 128 q.0; good = path_bytes path q.1 }

pub part_name : (bs : Bytes) → Part is_printable 128 bs → eqb (length bs) 0 ≡ false → is_name bs ≡ true
unfolding is_name
part_name bs p e =
    let z = eqb-false (length bs) 0 e in
    rw (le-leb 1 (length bs) (omega arith), le-leb (length bs) 128 p.short) p.good

any_byte : (bs : Bytes) → all (λ b. true) bs ≡ true
any_byte [] = refl
any_byte (b ∷ bs) = any_byte bs

pub stem_short : (path : Bytes) → length (stem_of path) ≤ length path
stem_short path = (stem_part (λ b. true) (length path) path (record { short = omega arith; good = any_byte path })).short
