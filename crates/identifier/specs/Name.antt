-- Document 01, R10: a name is 1 to 128 printable bytes.
use Rattle.std.specs.Prelude.{Bool, ◌&&◌, List, length}
use Rattle.std.specs.List.{list_all}
use Rattle.wire.specs.Bytes.{Bytes}
use Rattle.identifier.specs.Byte.{within, is_printable}

abbrev pub all : {A : Type 0} → (A → Bool) → List A → Bool
all = list_all

unfoldable pub is_name : Bytes → Bool
is_name name = within 1 128 (length name) && all is_printable name
