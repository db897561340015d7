-- `names::count_names`: a namespace has at most 64 names.
use native.Mathlib.Omega.{arith}
use mathlib.Core.Logic.{inl}
use Rattle.names.proofs.Walk.{whole_few}
use Rattle.names.proofs.count_names.Goals as goal

pub count-requires-clause-fits : goal.count-requires-clause-fits
count-requires-clause-fits c = inl (omega (arith, whole_few _ c.args.ns.good))
