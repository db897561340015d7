-- An optional comment and an optional rule are skipped by their tests; what follows them is one token or part after the other.
use mathlib.Core.Path.{refl}
use Rattle.token.specs.Kind.{is_rule}
use Rattle.parser.proofs.Fields.{field}
use Rattle.parser.proofs.parse_field.Goals as goal

pub skip_if-rule-requires-clause-wf : goal.skip_if-rule-requires-clause-wf
skip_if-rule-requires-clause-wf c = c.skip_comment-comment.ensures.read.wf

pub consume_token-requires : goal.consume_token-requires
consume_token-requires c = (c.skip_if-rule.ensures is_rule refl (λ kind b h. h.1)).read.wf

pub returns : goal.returns
returns c =
    field (record {
      wf = c.requires;
      comment = c.skip_comment-comment.ensures;
      rule = c.skip_if-rule.ensures is_rule refl (λ kind b h. h.1);
      name = c.in_ok-colon.ensures;
    }) c.in_ok-part.ensures c.in_ok-index.ensures c.in_ok-after.ensures
