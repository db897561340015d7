-- A choice by a test. Definitions that code follows test by test are nested picks, in the order of the code's ifs.
use Rattle.std.specs.Prelude.{Bool, true, false}

unfoldable pub pick {ℓ} : {A : Type ℓ} → Bool → A → A → A
pick true a b = a
pick false a b = b
