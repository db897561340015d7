-- A type inside brackets is read from past the bracket on.
use mathlib.Core.Path.{sym, ap, ◌∙◌}
use native.Mathlib.Omega.{arith}
use Rattle.token.specs.Kind.{is_plain}
use Rattle.token.proofs.Walk.{next_past}
use Rattle.parser.proofs.Laws.{handed}
use Rattle.parser.proofs.Types.{no_type, plain, is_square, inner_fails, closing_fails, closed}
use Rattle.parser.proofs.+parse_type.Goals as goal

pub returns-in_default : goal.returns-in_default
returns-in_default t c = no_type c.requires (sym c.in_default.ensures)

pub parse_type-requires : goal.parse_type-requires
parse_type-requires t c =
    let a = c.args in
    (omega (arith, c.decreases, c.next-second.ensures.here.1, c.next-second.ensures.place, next_past a.t.now a.c.at), c.next-second.ensures.wf)

pub returns-in_err-inner-in-LeftSquare : goal.returns-in_err-inner-in-LeftSquare
returns-in_err-inner-in-LeftSquare t c =
    handed _ _ _ _ c.from_residual.ensures.1
    (inner_fails c.next-second.ensures (is_square c.in-Some.ensures c.in-LeftSquare.is) c.in_err-inner-in-LeftSquare.ensures)

pub returns-in_err-after-in-LeftSquare : goal.returns-in_err-after-in-LeftSquare
returns-in_err-after-in-LeftSquare t c =
    handed _ _ _ _ c.from_residual-in_err-after-in-LeftSquare.ensures.1
    (closing_fails c.next-second.ensures (is_square c.in-Some.ensures c.in-LeftSquare.is) c.in_ok-inner-in-LeftSquare.ensures
    c.in_err-after-in-LeftSquare.ensures)

pub returns-in_ok-after-in-LeftSquare : goal.returns-in_ok-after-in-LeftSquare
returns-in_ok-after-in-LeftSquare t c =
    closed c.next-second.ensures (is_square c.in-Some.ensures c.in-LeftSquare.is) c.in_ok-inner-in-LeftSquare.ensures c.in_ok-after-in-LeftSquare.ensures

pub returns-in_default-kind : goal.returns-in_default-kind
returns-in_default-kind t c =
    rw c.base_type.ensures (plain c.next-second.ensures (sym (c.if-is_plain.ensures ∙ ap is_plain c.in-Some.ensures)))
