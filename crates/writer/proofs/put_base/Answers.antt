-- `writer::put_base` meets its contract.
use Rattle.std.proofs.Common.{◌≡◌, true, ap}
use Rattle.wire.specs.Pick.{pick}
use Rattle.schema.specs.Payload.{is_sized}
use Rattle.schema.specs.Kinds.{number_of}
use Rattle.schema.specs.declared.kind.Kind.TheVariants.{Plain}
use Rattle.schema.proofs.Known.{not_kind, one_kind}
use Rattle.text.proofs.Parts.{custom_sized}
use Rattle.writer.specs.Parts.{base_text}
use Rattle.writer.proofs.Types.{plain_base, custom_base}
use Rattle.writer.proofs.put_base.Goals.{In_default}
use Rattle.writer.proofs.put_base.Goals as goal

sized : (c : In_default) → is_sized c.args.p.now ≡ true
sized c = custom_sized _ (custom_base _ (λ e. c.in_default.not-Plain (one_kind _ Plain e)) c.requires)

pub plain_kind-requires : goal.plain_kind-requires
plain_kind-requires c = plain_base _ (ap number_of c.in-Plain.is) c.requires

pub name_of-requires : goal.name_of-requires
name_of-requires c = sized (goal.at.name_of-requires c).In_default

pub after_name-requires : goal.after_name-requires
after_name-requires c = sized (goal.at.after_name-requires c).In_default

pub returns-in-Plain : goal.returns-in-Plain
unfolding base_text pick
returns-in-Plain c = rw (c.in-Plain.is, ← c.plain_kind.ensures) c.put_plain_of_kind.ensures

pub returns-in_default : goal.returns-in_default
unfolding base_text pick
returns-in_default c =
    rw (not_kind c.args.kind Plain c.in_default.not-Plain, ← c.name_of.ensures, ← c.after_name.ensures) c.put_custom.ensures
