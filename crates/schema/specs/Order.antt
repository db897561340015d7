-- Document 01: "Both orders are strict."
use Rattle.std.specs.Prelude.{Bool, true, ◌&&◌, List, [], ◌∷◌}

-- each of these stands in the relation to the next, the first of them after `a`
abbrev pub is_chain_after : {A : Type 0} → (A → A → Bool) → A → List A → Bool
is_chain_after before a [] = true
is_chain_after before a (b ∷ bs) = before a b && is_chain_after before b bs

abbrev pub is_chain : {A : Type 0} → (A → A → Bool) → List A → Bool
is_chain before [] = true
is_chain before (a ∷ later) = is_chain_after before a later
