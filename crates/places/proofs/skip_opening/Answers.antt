-- A comment in front of a declaration is the schema's where it stands apart.
use mathlib.Core.Path.{◌≡◌, sym, ap, ◌∙◌}
use mathlib.Core.Bool.{true}
use Rattle.token.specs.Kind.{is_keyword}
use Rattle.grammar.specs.Error.{kind_at}
use Rattle.parser.specs.Steps.{ahead}
use Rattle.places.proofs.Opening.{second_stands, opened_far, opened_near}
use Rattle.places.proofs.skip_opening.Goals.{Then-is_keyword}
use Rattle.places.proofs.skip_opening.Goals as goal

keyword : (c : Then-is_keyword) → is_keyword (kind_at (ahead c.args.t.now c.next-past.result)) ≡ true
keyword c = sym (c.if-is_keyword.ensures ∙ ap is_keyword c.in-Some.ensures)

pub start_at-requires : goal.start_at-requires
start_at-requires c =
    second_stands (sym c.if-not-is_next.ensures) c.next-past.ensures (keyword (goal.at.start_at-requires c).Then-is_keyword)

pub returns-then-end_at-start_at : goal.returns-then-end_at-start_at
returns-then-end_at-start_at c =
    opened_far (sym c.if-not-is_next.ensures) c.next-past.ensures (keyword (goal.at.returns-then-end_at-start_at c).Then-is_keyword)
    (rw (← c.end_at.ensures, ← c.start_at.ensures) c.if-end_at-start_at.true)

pub returns-else-end_at-start_at : goal.returns-else-end_at-start_at
returns-else-end_at-start_at c =
    opened_near (sym c.if-not-is_next.ensures) c.next-past.ensures (keyword (goal.at.returns-else-end_at-start_at c).Then-is_keyword) c.requires
    (rw (← c.end_at.ensures, ← c.start_at.ensures) c.if-end_at-start_at.false)
