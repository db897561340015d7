-- The check's answer: R1 or R9, both at the offset 0, or that the bytes decode to a schema.
use Rattle.std.proofs.Math.Option.{Option, none, some}
use Rattle.std.specs.Prelude.{Result, Ok, Err, ltb, length}
use Rattle.wire.specs.Bytes.{Bytes}
use Rattle.wire.specs.Pick.{pick}
use Rattle.wire.specs.Refusal.{refused_by}
use Rattle.wire.specs.declared.Refusal.TheVariants.{TableTooLong, NotASchema}
use Rattle.wire.specs.declared.Refused.{Refused}
use Rattle.schema.specs.Ast.{Schema}
use Rattle.schema.specs.Decode.{decode_schema}

abbrev pub answer_of : Option Schema → Result (Unit {0}) Refused
answer_of none = Err (refused_by NotASchema)
answer_of (some s) = Ok tt

unfoldable pub checked : Bytes → Result (Unit {0}) Refused
checked t = pick (ltb 131072 (length t)) (Err (refused_by TableTooLong)) (answer_of (decode_schema t))
