-- Document 01, "Tables": the token kinds 1 to 25, in the order of token.rs's `Variant`.
use Rattle.std.specs.Prelude.{ℕ, Bool, ◌||◌, eqb}

abbrev pub k_as : ℕ
k_as = 1

abbrev pub k_asymmetric : ℕ
k_asymmetric = 2

abbrev pub k_bool : ℕ
k_bool = 3

abbrev pub k_bytes : ℕ
k_bytes = 4

abbrev pub k_choice : ℕ
k_choice = 5

abbrev pub k_colon : ℕ
k_colon = 6

abbrev pub k_comment : ℕ
k_comment = 7

abbrev pub k_deleted : ℕ
k_deleted = 8

abbrev pub k_dot : ℕ
k_dot = 9

abbrev pub k_equals : ℕ
k_equals = 10

abbrev pub k_f64 : ℕ
k_f64 = 11

abbrev pub k_identifier : ℕ
k_identifier = 12

abbrev pub k_import : ℕ
k_import = 13

abbrev pub k_integer : ℕ
k_integer = 14

abbrev pub k_left_curly : ℕ
k_left_curly = 15

abbrev pub k_left_square : ℕ
k_left_square = 16

abbrev pub k_optional : ℕ
k_optional = 17

abbrev pub k_path : ℕ
k_path = 18

abbrev pub k_right_curly : ℕ
k_right_curly = 19

abbrev pub k_right_square : ℕ
k_right_square = 20

abbrev pub k_s64 : ℕ
k_s64 = 21

abbrev pub k_string : ℕ
k_string = 22

abbrev pub k_struct : ℕ
k_struct = 23

abbrev pub k_u64 : ℕ
k_u64 = 24

abbrev pub k_unit : ℕ
k_unit = 25

-- the kinds of the plain types
abbrev pub is_plain : ℕ → Bool
is_plain k = eqb k k_bool || (eqb k k_bytes || (eqb k k_f64 || (eqb k k_s64 || (eqb k k_string || (eqb k k_u64 || eqb k k_unit)))))

abbrev pub is_rule : ℕ → Bool
is_rule k = eqb k k_asymmetric || eqb k k_optional

-- `struct` or `choice`, which begin a declaration
abbrev pub is_keyword : ℕ → Bool
is_keyword k = eqb k k_struct || eqb k k_choice
