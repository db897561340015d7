-- Writing what a test chooses: `search chosen` at a return finds the writes and the tests that led there.
use mathlib.Core.Path.{◌≡◌}
use mathlib.Core.Bool.{Bool, true, false}
use borrow.Author.Tests.{eq-eqb, ne_eqb}
use Rattle.wire.specs.Bytes.{Bytes}
use Rattle.wire.specs.Pick.{pick}
use Rattle.wire.specs.Puts.{Puts}
use Rattle.wire.specs.declared.Writer.{Writer}
use Rattle.wire.proofs.Puts.{puts_none, then}

pub puts_yes : (b : Bool) (x y : Bytes) {w w' : Writer} → b ≡ true → Puts w x w' → Puts w (pick b x y) w'
unfolding pick
puts_yes b x y e p = rw e p

pub puts_no : (b : Bool) (x y : Bytes) {w w' : Writer} → b ≡ false → Puts w y w' → Puts w (pick b x y) w'
unfolding pick
puts_no b x y e p = rw e p

pub ruleset chosen = (puts_yes, puts_no, puts_none, then, eq-eqb, ne_eqb)
