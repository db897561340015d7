-- `text::put_indices` meets its contract: the indices left are those of the bytes that the iterator holds.
use Rattle.std.proofs.Common.{◌≡◌, ◌∙◌, ◌/◌, ◌<◌, [], ◌++◌, length, drop, suc, arith, length-append}
use mathlib.Core.List.{flat_map}
use Rattle.std.proofs.Math.Seq.{drop-append_seam}
use Rattle.std.proofs.lemmas.List.{take-append-le}
use Rattle.wire.specs.Bytes.{Bytes, bytes}
use Rattle.wire.specs.Le.{le_at, u64_at}
use Rattle.wire.specs.Decimal.{decimal}
use Rattle.wire.proofs.Puts.{then, rest_all, rest_step, rest_none}
use Rattle.schema.specs.Payload.{indices_of}
use Rattle.text.specs.Text.{index_text}
use Rattle.text.proofs.put_indices.Goals as goal

more : (bs rest : Bytes) → length bs ≡ 8
    → flat_map index_text (indices_of (bs ++ rest)) ≡ bytes " " ++ decimal (u64_at bs 0) ++ flat_map index_text (indices_of rest)
unfolding indices_of index_text flat_map le_at
more bs rest e =
    let n : length (bs ++ rest) / 8 ≡ suc (length rest / 8) = omega (arith, length-append bs rest) in
    let d : drop 8 (bs ++ rest) ≡ rest = rw e at (drop-append_seam bs rest) in
    rw (n, take-append-le 8 bs rest (omega arith), d)

done : (rest : Bytes) → length rest < 8 → flat_map index_text (indices_of rest) ≡ []
unfolding indices_of flat_map
done rest h =
    let n : length rest / 8 ≡ 0 = omega arith in
    rw n

pub loop-index-init : goal.loop-index-init
loop-index-init c = record { size = cc; left = rw c.into_iter-index-iterator.ensures.into_iter_gives (rw c.chunks_exact-index-items.ensures.rest rest_all) }

pub loop-index-preserved : goal.loop-index-preserved
loop-index-preserved c =
    let s = c.in-Some.ensures.steps in record {
      size = s.0 ∙ c.loop-index.invariant.size;
      left =
          rest_step (then c.put_byte.ensures (rw c.u64_at.ensures at c.put_decimal.ensures)) c.loop-index.invariant.left
          (rw s.1.0 (more c.in-Some.index.now c.next.new.self.rest.now (s.1.1 ∙ c.loop-index.invariant.size)));
    }

pub returns : goal.returns
returns c =
    let s = c.in-None.ensures.steps in
    rest_none c.loop-index.invariant.left (done c.loop-index.index-iterator.rest.now (omega (arith, s.1.0)))
