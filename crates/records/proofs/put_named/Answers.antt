use lib.ListN.{length, length-append}
use mathlib.Core.Path.{◌≡◌, ap}
use mathlib.Core.List.{◌++◌}
use Prim.Native.Nat.{ℕ, ◌+◌}
use native.Mathlib.Omega.{arith}
use Rattle.wire.specs.Record.{head_bytes, record_bytes}
use Rattle.wire.proofs.Puts.{then, parts}
use Rattle.wire.proofs.Numbers.{le_bytes-length}
use Rattle.schema.specs.Encode.{sized}
use Rattle.records.proofs.put_named.Goals as goal

pub returns : goal.returns
unfolding record_bytes
returns c =
    let a = c.args in
    let payload = sized a.name.now ++ a.rest.now in
    let size : 14 + length a.name.now + length a.rest.now ≡ 12 + length payload = simp (length-append, le_bytes-length) (omega arith) in
    parts c.put_head.ensures (then c.put_sized.ensures c.put_slice.ensures)
    (ap (λ (n : ℕ). head_bytes n a.kind a.range.start a.range.end ++ payload) size)
