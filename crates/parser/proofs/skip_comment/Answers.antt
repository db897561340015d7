use mathlib.Core.Path.{refl}
use Rattle.std.proofs.Common.{rules}
use Rattle.token.specs.Kind.{k_comment}
use Rattle.grammar.specs.Reading.{is}
use Rattle.parser.proofs.skip_comment.Goals as goal

pub returns : goal.returns
returns c = c.skip_if.ensures (is k_comment) refl (λ kind b h. search rules)
