-- The deleted indices of a declaration.
use Rattle.std.specs.Prelude.{ℕ, ◌+◌, ◌*◌, ◌≤◌, ◌<◌, List, ltb, length}
use Rattle.std.proofs.Math.Option.{Option}
use Rattle.wire.specs.Bytes.{Bytes}
use Rattle.schema.specs.Encode.{encode_deleted}
use Rattle.grammar.specs.Tree.{DeletedPart}
use Rattle.grammar.specs.Sort.{sort_by}
use Rattle.grammar.specs.Meaning.{deleted_of}

-- numbers that one record can hold, and a list to sort them in
pub record Sortable (items spare : List ℕ) : Type 0 where
  pub room : length items ≤ length spare
  pub few : 12 + 8 * length items < 65536

abbrev pub deleted_bytes : Option DeletedPart → Bytes
deleted_bytes d = encode_deleted (sort_by ltb (deleted_of d))
