-- `reader::read_ordered` meets its contract: collecting leaves the buffer as it was where there are no errors, and they fit where each token has room
-- for one.
use Prim.Native.Nat.{◌<◌}
use native.Mathlib.Omega.{arith}
use lib.ListN.{length}
use borrow.Author.Rules.{rules}
use borrow.Author.Tests.{le-leb}
use Rattle.token.specs.Places.{tokens_from}
use Rattle.reader.proofs.Laws.{judgeable, clean, errors_written, errors_some, errors_fit, untouched, landed}
use Rattle.reader.proofs.read_ordered.Goals as goal

pub parse_schema-errors-requires : goal.parse_schema-errors-requires
parse_schema-errors-requires c =
    let pre = c.requires in
    judgeable pre (search rules) (search rules)

pub read_schema-requires : goal.read_schema-requires
read_schema-requires c =
    let if2 = c.if-errors-eq0 in
    let judged = c.parse_schema-errors in
    let pre = c.requires in
    clean pre judged.ensures.number if2.true (search rules) (search rules)

pub returns-then-errors-eq0 : goal.returns-then-errors-eq0
returns-then-errors-eq0 c =
    let read-schema = c.read_schema in
    let if2 = c.if-errors-eq0 in
    let judged = c.parse_schema-errors in
    let e = judged.ensures in
    rw (untouched _ e.wrote e.number if2.true) at read-schema.ensures

pub returns : goal.returns
returns c =
    let judged = c.parse_schema-errors in
    let if1 = c.if-out-items in
    let args = c.args in
    let pre = c.requires in
    let o = args.out.now in
    let k : length o < 18446744073709551615 = omega arith in
    let e = judged.ensures in
    let f = errors_fit (tokens_from args.t.now 0) (length args.items.now) o pre.list if1.false in
    errors_written args.t.now o pre.checked.decodes (errors_some _ e.number c.if-errors-eq0.false) (le-leb _ _ f) (landed o _ k f e.wrote)
