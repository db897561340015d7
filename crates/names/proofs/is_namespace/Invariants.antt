-- `names::is_namespace`: the bytes that are left hold as many names as turns are left, where all hold 64.
use mathlib.Core.Path.{◌≡◌}
use Prim.Native.Nat.{◌-◌}
use Rattle.names.specs.Namespace.{are_names, is_namespace}
use Rattle.names.proofs.is_namespace.Given as goal

abbrev pub invariant-loop : goal.invariant-loop
invariant-loop l = are_names (64 - l.counter) l.rest ≡ is_namespace l.ns
