-- Document 01, "Errors collected": the number of each error.
use Rattle.std.specs.Prelude.{ℕ}
use Rattle.parser.specs.declared.fault.Fault.{Fault}
use Rattle.parser.specs.declared.fault.Fault.TheVariants.{Declaration, StructName, ChoiceName, LeftCurly, RightCurly, ImportPath, ImportName, Field}
use Rattle.parser.specs.declared.fault.Fault.TheVariants.{FieldType, ImportBeforeDot, RightSquare, Equals, FieldIndex}
use Rattle.parser.specs.declared.fault.Fault.TheVariants.{NamelessImport, TakenName, DeletedTwice, AfterSchema, LoneComment}

abbrev pub number_of : Fault → ℕ
number_of Declaration = 1
number_of StructName = 2
number_of ChoiceName = 3
number_of LeftCurly = 4
number_of RightCurly = 5
number_of ImportPath = 6
number_of ImportName = 7
number_of Field = 8
number_of FieldType = 9
number_of ImportBeforeDot = 10
number_of RightSquare = 11
number_of Equals = 12
number_of FieldIndex = 13
number_of NamelessImport = 14
number_of TakenName = 15
number_of DeletedTwice = 16
number_of AfterSchema = 17
number_of LoneComment = 18
