-- The records of imports in a schema table.
use Rattle.std.specs.Prelude.{ℕ, ◌≡◌, List, [], map, length}
use Rattle.wire.specs.Bytes.{Bytes}
use Rattle.token.specs.Token.{end_of}
use Rattle.token.specs.Places.{tokens_from, Wf}
use Rattle.schema.specs.Ast.{Import}
use Rattle.schema.specs.Kind.{s_import}
use Rattle.schema.specs.Encode.{encode_record, import_payload, encode_imports}
use Rattle.grammar.specs.Tree.{ImportTree}
use Rattle.grammar.specs.Meaning.{import_of}
use Rattle.grammar.specs.Reading.{Reading, parse_imports}
use Rattle.parser.specs.Steps.{ahead}
use Rattle.parser.specs.declared.Cursor.{Cursor}
use Rattle.sorted.specs.Item.{import_at, place_of}

-- where the last token of a table ends
abbrev pub last_end : Bytes → ℕ
last_end t = end_of 0 (tokens_from t 0)

abbrev pub imports_from : Bytes → Cursor → Reading (List ImportTree)
imports_from t c = parse_imports (length (ahead t c)) (last_end t) [] (ahead t c)

-- a reading from a cursor of a good table has no errors
pub record Clear {A : Type 0} (t : Bytes) (c : Cursor) (R : Reading A) : Type 0 where
  pub wf : Wf t c.at
  pub errors : R.errors ≡ []

abbrev pub meaning_at : Bytes → ℕ → Import
meaning_at t x = import_of (import_at t (place_of x))

abbrev pub encode_import : Import → Bytes
encode_import i = encode_record s_import i.range (import_payload i)

-- the records of these imports
abbrev pub imports_at : Bytes → List ℕ → Bytes
imports_at t xs = encode_imports (map (meaning_at t) xs)
