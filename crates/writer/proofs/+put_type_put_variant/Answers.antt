-- `writer::put_type` and `writer::put_variant`: an array is a bracket, what is inside and a bracket; anything else is a base type.
use Rattle.std.proofs.Common.{◌∙◌, sym, ap, arith}
use Rattle.wire.proofs.Puts.{then}
use Rattle.schema.specs.declared.kind.Kind.TheVariants.{Array}
use Rattle.schema.proofs.Known.{one_kind}
use Rattle.text.specs.Text.{type_text}
use Rattle.writer.proofs.Types.{type_record, array_at, one_less, base_at_lem}
use Rattle.writer.proofs.+put_type_put_variant.Goals as goal

pub put_variant-known_kind_at-requires : goal.put_variant-known_kind_at-requires
put_variant-known_kind_at-requires t c = let r = type_record c.requires.stands in (r.whole, r.right)

pub put_variant-overflow_sub-left : goal.put_variant-overflow_sub-left
put_variant-overflow_sub-left t c = omega (arith, one_less c.requires.stands (sym c.in-Array.ensures) c.requires.depth)

pub put_variant-put_type-requires : goal.put_variant-put_type-requires
put_variant-put_type-requires t c =
    let e = sym c.in-Array.ensures in
    let f = one_less c.requires.stands e c.requires.depth in (
      omega (arith, c.decreases, f),
      record {
        stands = (array_at c.requires.stands e).inner;
        depth = omega (arith, f);
        few = omega (arith, f, c.requires.few);
      },
    )

pub put_variant-returns-in-Array : goal.put_variant-returns-in-Array
put_variant-returns-in-Array t c = rw (ap type_text (array_at c.requires.stands (sym c.in-Array.ensures)).type) (search then)

pub put_variant-payload_at-requires : goal.put_variant-payload_at-requires
put_variant-payload_at-requires t c = (type_record c.requires.stands).whole

pub put_variant-put_base-requires : goal.put_variant-put_base-requires
put_variant-put_base-requires t c =
    rw (c.known_kind_at.ensures, c.payload_at.ensures)
    (base_at_lem c.requires.stands (λ e. c.in_default.not-Array (one_kind _ Array (c.known_kind_at.ensures ∙ e)))).right

pub put_variant-returns-in_default : goal.put_variant-returns-in_default
put_variant-returns-in_default t c =
    rw (base_at_lem c.requires.stands (λ e. c.in_default.not-Array (one_kind _ Array (c.known_kind_at.ensures ∙ e)))).text
    (rw (c.known_kind_at.ensures, c.payload_at.ensures) at c.put_base.ensures)
