use Rattle.std.proofs.Common.{◌≡◌, ◌∙◌}
use Rattle.wire.specs.Refusal.{number_of}
use Rattle.wire.proofs.Puts.{then}
use Rattle.printed.specs.Printed.{refusal_line}
use Rattle.printed.proofs.put_refusal.Goals as goal

pub returns : goal.returns
unfolding refusal_line
returns c =
    let n : c.from.result ≡ number_of c.args.refused.refusal = c.from.ensures ∙ c.number.ensures in
    then (then (then c.put_byte.ensures (rw n at c.put_spaced.ensures)) c.put_spaced-2.ensures) c.put_byte-2.ensures
