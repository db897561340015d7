-- A derivation of a list of tokens: a tree of the grammar that yields them and meets the conditions beside the grammar.
use Rattle.std.specs.Prelude.{◌≡◌, List}
use Rattle.token.specs.Token.{Token}
use Rattle.grammar.specs.Tree.{SchemaTree, yield, Wf}
use Rattle.grammar.specs.Condition.{Good}

pub record Derives (ts : List Token) (tree : SchemaTree) : Type 0 where
  pub tokens : yield tree ≡ ts
  pub wf : Wf tree
  pub good : Good tree
