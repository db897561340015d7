-- A record that the check has passed has a known kind.
use Rattle.std.proofs.Common.{ℕ, ◌≡◌, true, refl, sym, ◌∙◌}
use Rattle.std.specs.Prelude.{Result, Ok, Err, IsOk}
use Rattle.wire.specs.Bytes.{Bytes}
use Rattle.schema.specs.Kinds.{Decodes}
use Rattle.schema.specs.Payload.{is_payload}
use Rattle.schema.specs.declared.kind.Kind.{Kind}
use Rattle.schema.specs.declared.kind.UnknownKind.{UnknownKind}
use Rattle.schema.proofs.Judging.{payload_unknown}
use Rattle.schema.proofs.Steps.{never}
use Rattle.schema.proofs.known_kind_at.Goals as goal

known : (n : ℕ) (p : Bytes) (r : Result Kind UnknownKind) → Decodes n r → is_payload n p ≡ true → IsOk r
known n p (Ok kind) d e = refl
known n p (Err u) d e = never (sym (payload_unknown n p d.1) ∙ e)

pub unwrap-requires : goal.unwrap-requires
unwrap-requires c = known _ _ _ (rw c.kind_at.ensures at c.try_from.ensures) c.requires.1
