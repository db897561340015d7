-- Record by record, from what is left of the table to what is left of it then.
use Prim.Native.Nat.{◌-◌, ◌<◌}
use mathlib.Core.Path.{◌≡◌, refl}
use lib.ListN.{length, drop}
use Rattle.std.proofs.Common.{rules}
use Rattle.std.specs.Prelude.{Err}
use Rattle.wire.specs.Refusal.{number_of}
use Rattle.wire.proofs.Refusals.{number_some}
use Rattle.token.specs.Table.{size_of, token_of, fault_of}
use Rattle.token.specs.Checked.{Passed}
use Rattle.token.proofs.Records.{checking, checked_end, checked_full, checked_bad, checked_less, checked_next}
use Rattle.token.proofs.check_records.Goals as goal

pub loop-rest-init : goal.loop-rest-init
loop-rest-init c = checking _ c.requires

pub returns-then-count-eq4096 : goal.returns-then-count-eq4096
returns-then-count-eq4096 c =
    let z : 0 < length c.loop-rest.rest.now = search rules in
    checked_full c.loop-rest.invariant z c.if-count-eq4096.true

pub invariant_of-before : goal.invariant_of-before
invariant_of-before c = record { shallow = c.loop-rest.invariant.shallow }

pub returns-in_err-before : goal.returns-in_err-before
returns-in_err-before c =
    let z : 0 < length c.loop-rest.rest.now = search rules in
    let n : number_of c.in_err-before.field-0.0.refusal ≡ fault_of c.loop-rest.before.0 c.loop-rest.before.1.0 c.loop-rest.rest.now = search rules in
    let o : c.in_err-before.field-0.0.offset ≡ length c.args.t.now - length c.loop-rest.rest.now = search rules in
    let e : c.from_residual.result ≡ Err c.in_err-before.field-0.0 = search rules in
    rw (e, o) (checked_bad c.loop-rest.invariant z c.if-count-eq4096.false n (number_some c.in_err-before.field-0.0.refusal))

pub loop-rest-smaller : goal.loop-rest-smaller
loop-rest-smaller c =
    let l = c.loop-rest in
    let z : 0 < length l.rest.now = search rules in
    let f : fault_of l.before.0 l.before.1.0 l.rest.now ≡ 0 = search rules in
    let r : c.in_ok-before.field-0-1.now ≡ drop (size_of l.rest.now) l.rest.now = search rules in
    rw r (checked_less l.invariant z c.if-count-eq4096.false refl f)

pub loop-rest-preserved : goal.loop-rest-preserved
loop-rest-preserved c =
    let l = c.loop-rest in
    let z : 0 < length l.rest.now = search rules in
    let f : fault_of l.before.0 l.before.1.0 l.rest.now ≡ 0 = search rules in
    let r : c.in_ok-before.field-0-1.now ≡ drop (size_of l.rest.now) l.rest.now = search rules in
    let o = c.in_ok-before.field-0-0 in
    let p : Passed l.before.1.0 (token_of l.rest.now) o.end o.row = search rules in
    rw (r, p.ends, p.squares) (checked_next l.invariant z c.if-count-eq4096.false refl f)

pub returns : goal.returns
returns c = let z : length c.loop-rest.rest.now ≡ 0 = search rules in checked_end c.loop-rest.invariant z
