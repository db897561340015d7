-- Document 01, "Names": a 256-entry byte table gives each byte's class and its lower and upper form; its rule holds over all entries.
use Rattle.std.specs.Prelude.{List, [], ◌∷◌, ℕ, zero, suc}
use Rattle.wire.specs.Bytes.{Bytes}

-- what the rule gives at n bytes, from b on
abbrev pub entries : {A : Type 0} → (ℕ → A) → ℕ → ℕ → List A
entries rule b zero = []
entries rule b (suc n) = rule b ∷ entries rule (suc b) n

unfoldable pub table : (ℕ → ℕ) → Bytes
table rule = entries rule 0 256
