-- Document 01, "Tables": the schema kinds 101 to 109, in the order in which their records stand.
use Rattle.std.specs.Prelude.{ℕ}

abbrev pub s_comment : ℕ
s_comment = 101

abbrev pub s_import : ℕ
s_import = 102

abbrev pub s_struct : ℕ
s_struct = 103

abbrev pub s_choice : ℕ
s_choice = 104

abbrev pub s_field : ℕ
s_field = 105

abbrev pub s_deleted : ℕ
s_deleted = 106

abbrev pub s_array : ℕ
s_array = 107

abbrev pub s_plain : ℕ
s_plain = 108

abbrev pub s_custom : ℕ
s_custom = 109
