-- Parts of a payload that code walks or tests: indices compared, a count and its paragraphs.
use mathlib.Core.Path.{◌≡◌, refl, sym}
use mathlib.Core.Bool.{Bool, true, false}
use mathlib.Core.List.{List, [], ◌∷◌, map}
use Prim.Native.Nat.{ℕ, zero, suc, ◌+◌, ◌-◌, ◌/◌, ◌%◌, ◌≤◌, ◌<◌}
use native.Mathlib.Numerals.{add-one}
use native.Mathlib.Omega.{arith}
use borrow.Author.Tests.{le-leb, eq-eqb}
use lib.Dec.{ltb, eqb}
use lib.ListN.{length, get_or, take, drop, length-take, length-drop, drop_of_length-le}
use lib.Seq.{take_all}
use Rattle.std.specs.List.{AllAdjacentBelow, IsAllAdjacentAnswer}
use Rattle.std.specs.Simd.{first_chunks}
use Rattle.wire.specs.Bytes.{Bytes}
use Rattle.wire.specs.Le.{le_at, u16_at, u64_at}
use Rattle.wire.proofs.Choice.{and_second}
use Rattle.token.proofs.Laws.{part_from}
use Rattle.token.specs.Payload.{is_comment, are_paragraphs, paragraphs_of}
use Rattle.schema.specs.Order.{is_chain, is_chain_after}
use Rattle.schema.specs.Payload.{indices_in, indices_of, is_deleted, is_counted}

-- the number in a chunk of 8 bytes
abbrev pub index_of : Bytes → ℕ
index_of chunk = u64_at chunk 0

chunk_indices : (n : ℕ) (p : Bytes) → map index_of (first_chunks 8 n p) ≡ indices_in n p
unfolding le_at
chunk_indices zero p = refl
chunk_indices (suc n) p =
    let l = length-take 8 p in
    let t : take 8 (take 8 p) ≡ take 8 p = take_all 8 (take 8 p) (omega arith) in
    rw (t, chunk_indices n (drop 8 p))

abbrev pub Rising : Bytes → Bytes → Bool → Type 0
Rising x y b = b ≡ ltb (index_of x) (index_of y)

next : (x : Bytes) (xs : List Bytes) (k : ℕ) (d : Bytes) → get_or (x ∷ xs) (k + 1) d ≡ get_or xs k d
next x xs k d = rw add-one

-- each index is below the next, or one of them is not
all_rising : (x : Bytes) (xs : List Bytes) → AllAdjacentBelow (λ a b. Rising a b true) (x ∷ xs) (length (x ∷ xs))
    → true ≡ is_chain_after ltb (index_of x) (map index_of xs)
all_rising x [] h = refl
all_rising x (y ∷ ys) h =
    let e : true ≡ ltb (index_of x) (index_of y) = h 0 [] (omega arith) in
    rw (← e) (all_rising y ys (λ k d l. rw (← next x (y ∷ ys) (k + 1) d, ← next x (y ∷ ys) k d) (h (k + 1) d (omega arith))))

one_falling : (x : Bytes) (xs : List Bytes) (k : ℕ) → k + 1 < length (x ∷ xs)
    → ((d : Bytes) → Rising (get_or (x ∷ xs) k d) (get_or (x ∷ xs) (k + 1) d) false) → false ≡ is_chain_after ltb (index_of x) (map index_of xs)
one_falling x [] k l h = absurd (omega arith)
one_falling x (y ∷ ys) zero l h = let e : false ≡ ltb (index_of x) (index_of y) = h [] in rw (← e)
one_falling x (y ∷ ys) (suc k) l h =
    let f = one_falling y ys k (omega arith) (λ d. rw add-one (rw (next x (y ∷ ys) (suc k) d) at (h d))) in
    sym (and_second (ltb (index_of x) (index_of y)) _ (sym f))

pub deleted_is : (p : Bytes) {chunks : List Bytes} {r : Bool} → chunks ≡ first_chunks 8 (length p / 8) p → 1 ≤ length p → length p % 8 ≡ 0
    → IsAllAdjacentAnswer Rising chunks r → r ≡ is_deleted p
unfolding is_deleted indices_of
deleted_is p {chunks} {r} e h w a = rw (le-leb 1 (length p) h, eq-eqb (length p % 8) 0 w, ← chunk_indices (length p / 8) p, ← e) (go chunks r a)
  where
    go : (xs : List Bytes) (b : Bool) → IsAllAdjacentAnswer Rising xs b → b ≡ is_chain ltb (map index_of xs)
    go [] true a = refl
    go [] false a = absurd (omega (arith, a.1))
    go (x ∷ xs) true a = all_rising x xs a
    go (x ∷ xs) false a = one_falling x xs a.0 a.1 a.2

-- what follows a count: nothing, or the paragraphs of a comment
module _ (p : Bytes) (h : 2 ≤ length p) where
  abbrev pub rest : Bytes
  rest = take (length p - 2) (drop 2 p)

  pub counted_none : {count : ℕ} → length rest ≡ 0 → count ≡ u16_at p 0 → eqb count 0 ≡ is_counted p
  unfolding is_counted are_paragraphs paragraphs_of
  counted_none e n =
      let d : drop 2 p ≡ [] = drop_of_length-le p {i = 2} (omega (arith, length-take (length p - 2) (drop 2 p), length-drop 2 p)) in
      rw (n, le-leb 2 (length p) h, d)

  -- which are a comment's where x
  module _ (some : 1 ≤ length rest) {x : Bool} (e : is_comment rest ≡ x) where
    are_comment : are_paragraphs 32 (drop 2 p) ≡ x
    unfolding is_comment
    are_comment = rw (le-leb 1 (length rest) some, part_from p 2) at e

    pub counted_not : x ≡ false → false ≡ is_counted p
    unfolding is_counted
    counted_not n = rw (le-leb 2 (length p) h, are_comment, n)

    pub counted_all : {count n : ℕ} → x ≡ true → count ≡ u16_at p 0 → n ≡ length (paragraphs_of rest) → eqb count n ≡ is_counted p
    unfolding is_counted
    counted_all f a b = rw (le-leb 2 (length p) h, are_comment, f, a, b, part_from p 2)
