-- The laws of numbers as bytes: a number read where it was written, or written where it was read, is the same; its bytes and its decimal digits
-- one at a time.
use mathlib.Core.Path.{◌≡◌, refl, ap, ◌∙◌}
use mathlib.Core.Bool.{Bool, true, false}
use mathlib.Core.List.{[], ◌∷◌, ◌++◌, append-nil}
use Prim.Native.Nat.{ℕ, zero, suc, ◌+◌, ◌*◌, ◌-◌, ◌/◌, ◌%◌, ◌^◌, ◌≤◌, ◌<◌}
use native.Mathlib.Nat.{pow-succ', pow-zero, one-mul, zero-add, mul_assoc, mul_comm}
use native.Mathlib.Numerals.{sub-one, add-one}
use native.Mathlib.Omega.{arith}
use lib.Dec.{ltb}
use lib.ListN.{length, get_or, set, take, drop, replicate, length-set, length-take, length-drop}
use lib.Seq.{drop-cons, take_all, take_at, drop_at, take-add, drop-drop, drop-set-lt, get_or-set_same, lt-length-set, append_snoc}
use borrow.Author.Tests.{lt-ltb, le-ltb, ltb-false}
use Rattle.wire.specs.Bytes.{Bytes}
use Rattle.wire.specs.Le.{le_bytes, le_number, le_at}
use Rattle.wire.specs.Decimal.{digits, decimal}
use Rattle.std.specs.Int.{byte_at, bytes_low_first}
use Rattle.std.proofs.Math.Nat.{div-div-eq-div-mul}

pub le_bytes-length : (k n : ℕ) → length (le_bytes k n) ≡ k
unfolding le_bytes
le_bytes-length zero n = refl
le_bytes-length (suc k) n = ap suc (le_bytes-length k (n / 256))

pub le_bytes-zero : (j n : ℕ) → j ≤ 0 → le_bytes j n ≡ []
unfolding le_bytes
le_bytes-zero zero n h = refl
le_bytes-zero (suc j) n h = absurd (omega arith)

pub le_bytes_step : (j n : ℕ) → 0 < j → le_bytes j n ≡ n % 256 ∷ le_bytes (j - 1) (n / 256)
unfolding le_bytes
le_bytes_step zero n h = absurd (omega arith)
le_bytes_step (suc j) n h = rw sub-one

-- the library's bytes of a number are these
byte_at_is : (i n : ℕ) → byte_at i n ≡ n / 256 ^ i % 256
byte_at_is zero n = rw pow-zero (omega arith)
byte_at_is (suc i) n = refl

low_first : (k i n : ℕ) → bytes_low_first i k n ≡ le_bytes k (n / 256 ^ i)
unfolding le_bytes
low_first zero i n = refl
low_first (suc k) i n =
    let e : n / 256 ^ i / 256 ≡ n / 256 ^ suc i = rw (div-div-eq-div-mul n (256 ^ i) 256, pow-succ', mul_comm) refl in
    rw (byte_at_is i n, low_first k (suc i) n, e)

pub to_le : (k n : ℕ) → bytes_low_first 0 k n ≡ le_bytes k n
to_le k n =
    let e : n / 256 ^ 0 ≡ n = omega arith in
    rw (low_first k 0 n, e)

-- a number that fits into k bytes comes back from them
pub le_number-le_bytes : (k n : ℕ) → n < 256 ^ k → le_number (le_bytes k n) ≡ n
unfolding le_bytes le_number
le_number-le_bytes zero n h = omega arith
le_number-le_bytes (suc k) n h =
    let q : n / 256 < 256 ^ k = omega (arith, rw pow-succ' at h) in
    rw (le_number-le_bytes k (n / 256) q) (omega arith)

abbrev pub AllBytes : Bytes → Type 0
AllBytes [] = Unit {0}
AllBytes (b ∷ bs) = (b < 256) × AllBytes bs

pub all_bytes : (bs : Bytes) → ((i : ℕ) → get_or bs i 0 < 256) → AllBytes bs
all_bytes [] h = tt
all_bytes (b ∷ bs) h = (h 0, all_bytes bs λ i. h (suc i))

-- and bytes come back from their number
pub le_bytes-le_number : (bs : Bytes) → AllBytes bs → le_bytes (length bs) (le_number bs) ≡ bs
unfolding le_bytes le_number
le_bytes-le_number [] h = refl
le_bytes-le_number (b ∷ bs) h =
    let r : (b + 256 * le_number bs) % 256 ≡ b = omega arith in
    let q : (b + 256 * le_number bs) / 256 ≡ le_number bs = omega arith in
    rw (r, q, le_bytes-le_number bs h.1)

-- a number read where it was written
pub le_at-le_bytes : (k n : ℕ) (a b : Bytes) (at : ℕ) → length a ≡ at → n < 256 ^ k → le_at k (a ++ (le_bytes k n ++ b)) at ≡ n
unfolding le_at
le_at-le_bytes k n a b at h f =
    rw (drop_at a (le_bytes k n ++ b) at h, take_at (le_bytes k n) b k (le_bytes-length k n)) (le_number-le_bytes k n f)

le_at_none : (s : Bytes) (at : ℕ) → le_at 0 s at ≡ 0
unfolding le_at le_number
le_at_none s at = refl

le_at_step : (k : ℕ) (s : Bytes) (at : ℕ) → at < length s → le_at (suc k) s at ≡ get_or s at 0 + 256 * le_at k s (at + 1)
unfolding le_at le_number
le_at_step k s at h = rw (drop-cons s at 0 h, add-one)

-- a number of two bytes by its bytes, and the wider ones by their halves
pub u16_bytes : (s : Bytes) (at : ℕ) → at + 2 ≤ length s → get_or s at 0 + 256 * get_or s (at + 1) 0 ≡ le_at 2 s at
u16_bytes s at h =
    omega (arith, le_at_step 1 s at (omega arith), le_at_step 0 s (at + 1) (omega arith), le_at_none s (at + 1 + 1))

le_number-append : (a b : Bytes) → le_number (a ++ b) ≡ le_number a + 256 ^ length a * le_number b
unfolding le_number
le_number-append [] b = rw (pow-zero, one-mul, zero-add)
le_number-append (x ∷ a) b = rw (le_number-append a b, pow-succ', mul_assoc) (omega arith)

pub le_at_halves : (j k : ℕ) (s : Bytes) (at : ℕ) → at + j ≤ length s → le_at (j + k) s at ≡ le_at j s at + 256 ^ j * le_at k s (at + j)
unfolding le_at
le_at_halves j k s at h =
    let l : length (take j (drop at s)) ≡ j = simp (length-take, length-drop) (omega arith) in
    rw (take-add j k (drop at s), le_number-append, drop-drop) (rw l)

-- the decimal digits, one at a time: enough digits are enough
fuel : (f g n : ℕ) → n < f → n < g → digits f n ≡ digits g n
unfolding digits
fuel zero g n h k = absurd (omega arith)
fuel (suc f) zero n h k = absurd (omega arith)
fuel (suc f) (suc g) n h k = go (λ t. fuel f g (n / 10) (omega arith) (omega arith)) (ltb n 10) refl
  where
    go : (10 ≤ n → digits f (n / 10) ≡ digits g (n / 10)) → (b : Bool) → ltb n 10 ≡ b → digits (suc f) n ≡ digits (suc g) n
    go same true e = rw (e, digits)
    go same false e = rw (e, digits) (rw (same (ltb-false n 10 e)))

pub decimal_small : (n : ℕ) → n < 10 → decimal n ≡ (48 + n) ∷ []
unfolding decimal digits
decimal_small n h = rw (lt-ltb n 10 h, digits)

pub decimal_step : (n : ℕ) → 10 ≤ n → decimal n ≡ decimal (n / 10) ++ ((48 + n % 10) ∷ [])
unfolding decimal digits
decimal_step n h = rw (le-ltb n 10 h, digits) (rw (fuel n (suc (n / 10)) (n / 10) (omega arith) (omega arith)))

-- the digits laid so far from the last place down: those of m are still to be laid, up to the place i
pub record Digits (d : Bytes) (i m n : ℕ) : Type 0 where
  pub size : length d ≡ 20
  pub inside : i < 20
  pub small : m < 10 ^ (i + 1)
  pub text : decimal m ++ drop (i + 1) d ≡ decimal n

pub digits_none : (n : ℕ) → n < 2 ^ 64 → Digits (replicate 20 0) 19 n n
digits_none n h = record { size = refl; inside = omega arith; small = omega arith; text = append-nil (decimal n) }

-- what stands from i on where v was laid at i
laid_at : (d : Bytes) (i v : ℕ) → i < length d → drop i (set d i v) ≡ v ∷ drop (i + 1) d
laid_at d i v h =
    rw (drop-cons (set d i v) i 0 (lt-length-set d i v h), get_or-set_same d i v 0 h, add-one, drop-set-lt (suc i) d i v (omega arith))

pub ten_places : (i m : ℕ) → 10 ≤ m → m < 10 ^ (i + 1) → (0 < i) × (m / 10 < 10 ^ (i - 1 + 1))
ten_places zero m h k = absurd (omega arith)
ten_places (suc i) m h k =
    let e : suc i + 1 ≡ suc (suc i) = omega arith in
    let f : suc i - 1 + 1 ≡ suc i = omega arith in
    let p : m < 10 * 10 ^ suc i = rw (e, pow-succ') at k in
    (omega arith, rw f (omega arith))

pub digits_more : {d : Bytes} {i m n : ℕ} → Digits d i m n → 10 ≤ m → Digits (set d i (48 + m % 10)) (i - 1) (m / 10) n
digits_more {d} {i} {m} g h =
    let t = ten_places i m h g.small in
    let e : i - 1 + 1 ≡ i = omega arith in
    let k : i < length d = omega arith in
    record {
      size = length-set d i _ ∙ g.size;
      inside = omega arith;
      small = t.1;
      text = rw (e, laid_at d i (48 + m % 10) k, ← append_snoc, ← decimal_step m h) g.text;
    }

pub digits_whole : {d : Bytes} {i m n : ℕ} → Digits d i m n → m < 10 → take (20 - i) (drop i (set d i (48 + m))) ≡ decimal n
digits_whole {d} {i} {m} g h =
    let k : i < length d = omega arith in
    let l : length (drop i (set d i (48 + m))) ≤ 20 - i = simp (length-drop, length-set) (omega arith) in
    rw (take_all (20 - i) (drop i (set d i (48 + m))) l, laid_at d i (48 + m) k) (rw (decimal_small m h) at g.text)
