-- A list that fills up from its start on.
use Rattle.std.specs.Prelude.{ℕ, ◌+◌, ◌≡◌, set}
use Rattle.places.specs.declared.Filling.{Filling}

-- x stands behind what filled f, which is f' now; it holds the same list
pub record Pushes (f : Filling) (x : ℕ) (f' : Filling) : Type 0 where
  pub same : f'.list.ghost_name ≡ f.list.ghost_name
  pub list : f'.list.now ≡ set f.list.now f.count x
  pub count : f'.count ≡ f.count + 1
