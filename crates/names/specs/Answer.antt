-- Document 01, "Numbers that stop a call", for the functions on names: R10, then R8. A success returns the length written, and bytes after it stay
-- unchanged; a refusal returns its number and the offset 0, and changes no lent byte.
use Rattle.std.specs.Prelude.{◌≡◌, Bool, ◌&&◌, ℕ, leb, length, Result, Ok, Err}
use Rattle.wire.specs.Bytes.{Bytes}
use Rattle.wire.specs.Pick.{pick}
use Rattle.wire.specs.Put.{laid}
use Rattle.wire.specs.Refusal.{refused_by}
use Rattle.wire.specs.declared.Refused.{Refused}
use Rattle.wire.specs.declared.Refusal.TheVariants.{NoRoom, NotAName}
use Rattle.identifier.specs.Name.{is_name}
use Rattle.identifier.specs.Order.{name_order, same_name}
use Rattle.identifier.specs.Join.{join_of}
use Rattle.identifier.specs.Survive.{survives}
use Rattle.std.specs.declared.cmp.Ordering.{Ordering}
use Rattle.names.specs.declared.Relative.{Relative}

-- the answer where bs is to be written into the buffer o and `good` says whether the input is good
unfoldable pub answer_of : Bool → Bytes → Bytes → Result ℕ Refused
answer_of good bs o = pick good (pick (leb (length bs) (length o)) (Ok (length bs)) (Err (refused_by NoRoom))) (Err (refused_by NotAName))

-- and what is left in the buffer
unfoldable pub buffer_of : Bool → Bytes → Bytes → Bytes
buffer_of good bs o = pick good (laid o bs) o

pub record Answers (good : Bool) (bs o o' : Bytes) (r : Result ℕ Refused) : Type 0 where
  pub answer : r ≡ answer_of good bs o
  pub buffer : o' ≡ buffer_of good bs o

-- for relativizing, with the number of steps up besides
abbrev pub with_steps : ℕ → Result ℕ Refused → Result Relative Refused
with_steps up (Ok n) = Ok (record { size = n; up = up })
with_steps up (Err refused) = Err refused

pub record Relatives (good : Bool) (bs : Bytes) (up : ℕ) (o o' : Bytes) (r : Result Relative Refused) : Type 0 where
  pub answer : r ≡ with_steps up (answer_of good bs o)
  pub buffer : o' ≡ buffer_of good bs o

-- the order of two names
unfoldable pub compared_of : Bytes → Bytes → Result Ordering Refused
compared_of a b = pick (is_name a && is_name b) (Ok (name_order a b)) (Err (refused_by NotAName))

-- whether they are equal
unfoldable pub sameness_of : Bytes → Bytes → Result Bool Refused
sameness_of a b = pick (is_name a && is_name b) (Ok (same_name a b)) (Err (refused_by NotAName))

-- whether two names have a joined name
unfoldable pub is_joinable : Bytes → Bytes → Bool
is_joinable a b = (is_name a && is_name b) && leb (length (join_of a b)) 128

-- whether a name survives printing
unfoldable pub survival_of : Bytes → Result Bool Refused
survival_of name = pick (is_name name) (Ok (survives name)) (Err (refused_by NotAName))
