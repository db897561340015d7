-- The parts of a payload are read where they were written, and written where they were read.
use mathlib.Core.Path.{◌≡◌, refl, ap, ◌∙◌}
use mathlib.Core.Bool.{true, and-eq-true_iff}
use mathlib.Core.List.{List, [], ◌∷◌, ◌++◌}
use Prim.Native.Nat.{ℕ, zero, suc, ◌+◌, ◌*◌, ◌/◌, ◌^◌, ◌≤◌, ◌<◌}
use native.Mathlib.Omega.{arith}
use borrow.Author.Tests.{leb-true, le-leb}
use lib.Dec.{leb}
use lib.ListN.{length, take, drop, length-append, length-take, length-drop, take-append-drop}
use lib.Seq.{drop_at, take-add, drop-drop, length-take-le}
use Rattle.wire.specs.Bytes.{Bytes}
use Rattle.wire.specs.Le.{le_bytes, le_at, u16_at}
use Rattle.wire.proofs.Numbers.{AllBytes, le_bytes-length, le_at-le_bytes}
use Rattle.token.specs.Payload.{paragraph_of, after_paragraph}
use Rattle.token.proofs.Paragraphs.{all_take, all_drop, page_size, page_length}
use Rattle.token.proofs.Encode.{le_small, bytes_at}
use Rattle.schema.specs.Limits.{Each}
use Rattle.schema.specs.Encode.{sized, indices}
use Rattle.schema.specs.Payload.{name_of, after_name, is_sized, is_named, indices_in, indices_of}

-- a number fits the bytes that it was read from
pub le_at_small : (k : ℕ) (bs : Bytes) (at : ℕ) → AllBytes bs → at + k ≤ length bs → le_at k bs at < 256 ^ k
unfolding le_at
le_at_small k bs at a h =
    rw (length-take-le k (drop at bs) (rw length-drop (omega arith))) at (le_small (take k (drop at bs)) (all_take k (drop at bs) (all_drop at bs a)))

-- a name after its length
module _ (name rest : Bytes) (f : length name < 65536) where
  pub is_sized_lem : is_sized (sized name ++ rest) ≡ true
  unfolding is_sized
  is_sized_lem =
      let l = page_length name rest f in
      rw (page_size name rest f, le-leb 2 (length (sized name ++ rest)) (omega arith), le-leb (2 + length name) (length (sized name ++ rest)) (omega arith))

pub bytes_after : (p : Bytes) → AllBytes p → AllBytes (after_name p)
unfolding after_paragraph
bytes_after p a = all_drop (u16_at p 0) (drop 2 p) (all_drop 2 p a)

-- and back: a name with its length, and what follows it
pub record Sized (p : Bytes) : Type 0 where
  pub room : 2 + u16_at p 0 ≤ length p
  pub size : length (name_of p) ≡ u16_at p 0

pub sized_facts : (p : Bytes) → is_sized p ≡ true → Sized p
unfolding is_sized paragraph_of
sized_facts p e =
    let h = leb-true (2 + u16_at p 0) (length p) ((and-eq-true_iff (leb 2 (length p)) _).0 e).1 in
    record { room = h; size = length-take (u16_at p 0) (drop 2 p) ∙ simp length-drop (omega arith) }

pub name_back : (p : Bytes) → Sized p → AllBytes p → sized (name_of p) ++ after_name p ≡ p
unfolding paragraph_of after_paragraph
name_back p s a =
    let h = s.room in
    rw (s.size, bytes_at 2 0 p a (omega arith), ← (take-add 2 (u16_at p 0) p), drop-drop) (take-append-drop (2 + u16_at p 0) p)

pub named_sized : (p : Bytes) → is_named p ≡ true → is_sized p ≡ true
unfolding is_named
named_sized p e = ((and-eq-true_iff (is_sized p) _).0 e).0

-- u64s
pub indices-length : (ns : List ℕ) → length (indices ns) ≡ 8 * length ns
indices-length [] = refl
indices-length (n ∷ ns) = rw (length-append, le_bytes-length) (omega (arith, indices-length ns))

abbrev pub IsIndex : ℕ → Type 0
IsIndex n = n < 18446744073709551616

indices_written_in : (ns : List ℕ) → Each IsIndex ns → indices_in (length ns) (indices ns) ≡ ns
indices_written_in [] e = refl
indices_written_in (n ∷ ns) e =
    rw (le_at-le_bytes 8 n [] (indices ns) 0 refl e.0, drop_at (le_bytes 8 n) (indices ns) 8 (le_bytes-length 8 n), indices_written_in ns e.1)

pub indices_written : (ns : List ℕ) → Each IsIndex ns → indices_of (indices ns) ≡ ns
unfolding indices_of
indices_written ns e =
    let l = indices-length ns in
    let h : length (indices ns) / 8 ≡ length ns = omega arith in
    rw h (indices_written_in ns e)

pub record IndicesRead (n : ℕ) (p : Bytes) : Type 0 where
  pub count : length (indices_in n p) ≡ n
  pub each : Each IsIndex (indices_in n p)
  pub back : indices (indices_in n p) ≡ p

pub indices_read : (n : ℕ) (p : Bytes) → length p ≡ 8 * n → AllBytes p → IndicesRead n p
indices_read zero [] l a = record { count = refl; each = tt; back = refl }
indices_read zero (b ∷ p) l a = absurd (omega arith)
indices_read (suc n) p l a =
    let r = indices_read n (drop 8 p) (length-drop 8 p ∙ omega arith) (all_drop 8 p a) in
    record {
      count = ap suc r.count;
      each = (le_at_small 8 p 0 a (omega arith), r.each);
      back = rw (bytes_at 8 0 p a (omega arith), r.back) (take-append-drop 8 p);
    }
