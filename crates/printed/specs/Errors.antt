-- The printed lines of errors as the definition of reading has them, before they are records.
use Rattle.std.specs.Prelude.{List, [], ◌∷◌, ◌++◌}
use Rattle.wire.specs.Bytes.{Bytes}
use Rattle.grammar.specs.Error.{Error}
use Rattle.printed.specs.Printed.{error_text}

abbrev pub errors_text : List Error → Bytes
errors_text [] = []
errors_text (e ∷ es) = error_text e.number e.range.start e.range.end e.found ++ errors_text es
