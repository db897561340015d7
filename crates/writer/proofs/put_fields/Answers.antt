-- `writer::put_fields` meets its contract.
use Rattle.std.proofs.Common.{refl, not, ◌&&◌, ◌||◌, eqb, arith}
use Rattle.wire.specs.Puts.{Puts}
use Rattle.text.specs.Text.{blank}
use borrow.Author.Tests.{eq-eqb, ne_eqb}
use Rattle.schema.specs.Walk.{next_at}
use Rattle.schema.specs.declared.kind.Kind.TheVariants.{Field}
use Rattle.schema.proofs.Known.{same, differs}
use Rattle.schema.proofs.Walk.{record_at}
use Rattle.writer.proofs.Types.{Typed, typed}
use Rattle.writer.proofs.Fields.{fielding_begin, fielding_more, fielding_end, fielding_other, FieldAt, field_at, nested_at}
use Rattle.writer.proofs.put_fields.Goals.{Then-eq, After-innermost-inner, After-put_blank}
use Rattle.writer.proofs.put_fields.Goals.{then-at-from+then-commented, then-at-from+else-commented, else-at-from}
use Rattle.writer.proofs.put_fields.Goals as goal

-- the field at the loop's place, and its type inside the arrays
here : (c : Then-eq) → FieldAt c.args.t.now c.loop-at.at
here c = field_at c.loop-at.invariant.stands c.loop-at-test.true (same _ Field c.known_kind_at.ensures c.if-eq.ensures)

inside : (c : After-innermost-inner) → Typed c.args.t.now (next_at c.args.t.now c.loop-at.at) c.innermost-inner.result
inside c = typed _ (here (goal.at-After-innermost-inner c).Then-eq).type refl (rw c.next_at-next.ensures at c.innermost-inner.ensures)

blank_line : (c : After-put_blank) → Puts c.loop-at.w (blank (not (eqb c.loop-at.at c.args.from) && (c.loop-at.commented || c.has_comment-has.result))) c.put_blank.new.w
blank_line c =
    elim c.if-at-from.branch [
      | then-at-from+then-commented b ↦ rw (ne_eqb _ _ b.if-at-from.true, b.if-commented.true) (rw (b.put_blank-is, b.if-commented.true) at c.put_blank.ensures)
      | then-at-from+else-commented b ↦ rw (ne_eqb _ _ b.if-at-from.true, b.if-commented.false) (rw b.put_blank-is at c.put_blank.ensures)
      | else-at-from b ↦ let e = eq-eqb _ _ b.if-at-from.false in rw e (rw (b.put_blank-is, e) at c.put_blank.ensures)
    ]

pub loop-at-init : goal.loop-at-init
loop-at-init c = fielding_begin c.requires

pub known_kind_at-requires : goal.known_kind_at-requires
known_kind_at-requires c = let r = (record_at c.loop-at.invariant.stands c.loop-at-test.true) in (r.whole, r.right)

pub next_at-next-requires : goal.next_at-next-requires
next_at-next-requires c = let w = (here (goal.at.next_at-next-requires c).Then-eq).whole in (omega (arith, w), w.tail)

pub innermost-inner-requires : goal.innermost-inner-requires
innermost-inner-requires c = rw c.next_at-next.ensures (here (goal.at.innermost-inner-requires c).Then-eq).type

pub payload_at-p-requires : goal.payload_at-p-requires
payload_at-p-requires c = (here (goal.at.payload_at-p-requires c).Then-eq).whole

pub has_comment-has-requires : goal.has_comment-has-requires
has_comment-has-requires c = rw c.payload_at-p.ensures (here (goal.at.has_comment-has-requires c).Then-eq).right

pub put_field-requires : goal.put_field-requires
put_field-requires c =
    let f = here (goal.at.put_field-requires c).Then-eq in
    (rw c.payload_at-p.ensures f.right, nested_at f c.next_at-next.ensures c.innermost-inner.ensures)

pub next_at-at-requires : goal.next_at-at-requires
next_at-at-requires c = let w = (inside (goal.at.next_at-at-requires c).After-innermost-inner).whole in (omega (arith, w), w.tail)

pub loop-at-smaller : goal.loop-at-smaller
loop-at-smaller c =
    let at = goal.at.loop-at-smaller c in
    omega (arith, (here at.Then-eq).whole, (inside at.After-innermost-inner).whole, c.next_at-at.ensures, c.innermost-inner.ensures, c.next_at-next.ensures)

pub loop-at-preserved : goal.loop-at-preserved
loop-at-preserved c =
    let n = c.next_at-next.ensures in
    let p = c.payload_at-p.ensures in
    fielding_more c.loop-at.invariant c.loop-at-test.true (same _ Field c.known_kind_at.ensures c.if-eq.ensures) (rw n at c.innermost-inner.ensures)
    c.next_at-at.ensures (rw p at c.has_comment-has.ensures)
    (blank_line (goal.at.loop-at-preserved c).After-put_blank) (rw (p, n) at c.put_field.ensures)

pub returns-else-eq : goal.returns-else-eq
returns-else-eq c =
    fielding_other c.loop-at.invariant c.loop-at-test.true (ne_eqb _ _ (differs _ Field c.known_kind_at.ensures c.if-eq.ensures))

pub returns-after-loop-at : goal.returns-after-loop-at
returns-after-loop-at c = fielding_end c.loop-at.invariant c.loop-at-test.false
