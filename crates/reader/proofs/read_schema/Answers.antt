-- Twice the table is room enough, or emitting into no buffer tells the length, which fits or is R8.
use Prim.Native.Nat.{◌≤◌, ◌<◌}
use native.Mathlib.Omega.{arith}
use lib.ListN.{length}
use borrow.Author.Tests.{le-leb}
use Rattle.wire.proofs.Laws as measured
use Rattle.token.specs.Places.{tokens_from}
use Rattle.schema.specs.Encode.{encode_schema}
use Rattle.grammar.specs.Meaning.{schema_of}
use Rattle.grammar.specs.Reading.{parse_schema}
use Rattle.grammar.proofs.Outcomes.{parse_schema_lem}
use Rattle.grammar.proofs.Twice.{read_twice}
use Rattle.reader.proofs.Laws.{too_long, schema_written, landed}
use Rattle.reader.proofs.read_schema.Goals as goal

pub returns-then-t-out : goal.returns-then-t-out
returns-then-t-out c =
    let pre = c.requires in
    let o = c.args.out.now in
    let k : length o < 18446744073709551615 = omega arith in
    let ts = tokens_from c.args.t.now 0 in
    let bs = encode_schema (schema_of (parse_schema ts).value) in
    let f : length bs ≤ length o = omega (arith, read_twice c.args.t.now ts pre.decodes pre.none, c.if-t-out.true) in
    schema_written c.args.t.now o pre.decodes pre.none (le-leb (length bs) (length o) f) (landed o bs k f c.emit_into-length.ensures)

pub returns-then-out-need : goal.returns-then-out-need
returns-then-out-need c =
    let pre = c.requires in
    let o = c.args.out.now in
    let m = c.emit_into-need.ensures in
    let k : length o < 18446744073709551615 = omega arith in
    rw (measured.nothing o m, c.into.ensures)
    (too_long c.args.t.now o pre.decodes (parse_schema_lem _ pre.none) (measured.too_long o m k c.if-out-need.true))

pub returns : goal.returns
returns c =
    let pre = c.requires in
    let o = c.args.out.now in
    let m = c.emit_into-need.ensures in
    let k : length o < 18446744073709551615 = omega arith in
    let f = c.if-out-need.false in
    schema_written c.args.t.now o pre.decodes pre.none (measured.fits o m k f) (measured.written o m k f c.emit_into.ensures)
