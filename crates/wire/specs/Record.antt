-- A record of document 01: length u16 (the whole record), kind u16, start u32, end u32, payload.
use Rattle.std.specs.Prelude.{◌++◌, ℕ, ◌+◌, length}
use Rattle.wire.specs.Bytes.{Bytes}
use Rattle.wire.specs.Le.{le_bytes}

unfoldable pub head_bytes : ℕ → ℕ → ℕ → ℕ → Bytes
head_bytes size kind start end = le_bytes 2 size ++ le_bytes 2 kind ++ le_bytes 4 start ++ le_bytes 4 end

unfoldable pub record_bytes : ℕ → ℕ → ℕ → Bytes → Bytes
record_bytes kind start end payload = head_bytes (12 + length payload) kind start end ++ payload
