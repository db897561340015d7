-- `names::is_namespace`: the bytes that are left hold as many names as turns are left, where all hold 64.
use mathlib.Core.Path.{◌≡◌, refl, sym, ◌∙◌}
use mathlib.Core.Logic.{inl, inr}
use Prim.Native.Nat.{ℕ, suc, ◌+◌, ◌-◌, ◌<◌}
use native.Mathlib.Omega.{arith}
use Rattle.names.specs.Namespace.{is_namespace}
use Rattle.names.proofs.Walk.{names_end, names_next, names_bad}
use Rattle.names.proofs.is_namespace.Goals as goal
use Rattle.names.proofs.is_namespace.Goals.{else-loop-test, then-loop-test+in_default}

pub loop-init : goal.loop-init
unfolding is_namespace
loop-init c = refl

turn : {k : ℕ} → k < 64 → 64 - k ≡ suc (64 - (k + 1))
turn h = omega arith

pub returns-then-not-is_name : goal.returns-then-not-is_name
returns-then-not-is_name c =
    sym (names_bad (64 - (c.loop.counter + 1)) _ c.in-Some.ensures c.is_name.ensures c.if-not-is_name.true) ∙ rw (turn c.loop-test.true) at c.loop.invariant

pub loop-preserved : goal.loop-preserved
loop-preserved c =
    sym (names_next (64 - (c.loop.counter + 1)) _ c.in-Some.ensures c.is_name.ensures c.if-not-is_name.false) ∙ rw (turn c.loop-test.true) at c.loop.invariant

pub returns : goal.returns
returns c =
    elim c.loop-test.branch [
      | else-loop-test w ↦ c.is_empty.ensures ∙ names_end (64 - c.loop.counter) _ (inl (omega arith)) ∙ c.loop.invariant
      | then-loop-test+in_default w ↦ c.is_empty.ensures ∙ names_end (64 - c.loop.counter) _ (inr w.in_default.ensures) ∙ c.loop.invariant
    ]
