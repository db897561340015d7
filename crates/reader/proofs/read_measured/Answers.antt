-- `reader::read_measured` meets its contract: collecting into no buffer tells whether there are errors, and how long their list is.
use Prim.Native.Nat.{◌<◌}
use native.Mathlib.Omega.{arith}
use lib.ListN.{length}
use borrow.Author.Rules.{rules}
use Rattle.wire.proofs.Laws as measured
use Rattle.reader.proofs.Laws.{judgeable, clean, too_long, errors_written, errors_some}
use Rattle.reader.proofs.read_measured.Goals as goal

pub parse_schema-needed-requires : goal.parse_schema-needed-requires
parse_schema-needed-requires c = let pre = c.requires in judgeable pre (search rules) (search rules)

pub read_schema-requires : goal.read_schema-requires
read_schema-requires c =
    let if1 = c.if-needed-eq0 in
    let judged = c.parse_schema-needed in
    let pre = c.requires in
    clean pre judged.ensures.number if1.true (search rules) (search rules)

pub returns-then-needed-eq0 : goal.returns-then-needed-eq0
returns-then-needed-eq0 c =
    let read-schema = c.read_schema in
    let judged = c.parse_schema-needed in
    let args = c.args in
    rw (measured.nothing args.out.now judged.ensures.wrote) at read-schema.ensures

pub returns-then-out-needed : goal.returns-then-out-needed
returns-then-out-needed c =
    let if1 = c.if-needed-eq0 in
    let judged = c.parse_schema-needed in
    let args = c.args in
    let pre = c.requires in
    let o = args.out.now in
    let m = judged.ensures in
    let k : length o < 18446744073709551615 = omega arith in
    rw (measured.nothing o m.wrote, c.into.ensures)
    (too_long args.t.now o pre.checked.decodes (errors_some _ m.number if1.false) (measured.too_long o m.wrote k c.if-out-needed.true))

pub parse_schema-list-requires : goal.parse_schema-list-requires
parse_schema-list-requires c =
    let pre = c.requires in
    judgeable pre (search rules) (search rules)

pub returns : goal.returns
returns c =
    let parse-schema2 = c.parse_schema-list in
    let if2 = c.if-out-needed in
    let if1 = c.if-needed-eq0 in
    let judged = c.parse_schema-needed in
    let args = c.args in
    let good = c.well_formed in
    let pre = c.requires in
    let o = args.out.now in
    let m = judged.ensures in
    let k : length o < 18446744073709551615 = omega (arith, good.1.0) in
    let f = if2.false in
    errors_written args.t.now o pre.checked.decodes (errors_some _ m.number if1.false) (measured.fits o m.wrote k f)
    (measured.written o m.wrote k f parse-schema2.ensures.wrote)
