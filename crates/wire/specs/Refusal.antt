-- Document 01, "Numbers that stop a call".
use Rattle.std.specs.Prelude.{ℕ}
use Rattle.wire.specs.declared.Refused.{Refused}
use Rattle.wire.specs.declared.Refusal.{Refusal}
use Rattle.wire.specs.declared.Refusal.TheVariants.{TableTooLong, RecordCutShort, UnknownKind, WrongPayload, WrongRange, TooManyTokens, TooManyBrackets, NoRoom, NotASchema, NotAName}

abbrev pub number_of : Refusal → ℕ
number_of TableTooLong = 1
number_of RecordCutShort = 2
number_of UnknownKind = 3
number_of WrongPayload = 4
number_of WrongRange = 5
number_of TooManyTokens = 6
number_of TooManyBrackets = 7
number_of NoRoom = 8
number_of NotASchema = 9
number_of NotAName = 10

-- of no record, which is told by the offset 0
abbrev pub refused_by : Refusal → Refused
refused_by refusal = record { refusal = refusal; offset = 0 }
