-- What emitting promises of a part of the schema whose reading has no errors: the encoding of what it means is put, and the next cursor
-- stands before the tokens that the reading leaves.
use Rattle.std.specs.Prelude.{ℕ, ◌≡◌, Bool, not, List, [], map, length}
use Rattle.wire.specs.Bytes.{Bytes}
use Rattle.wire.specs.Puts.{Puts}
use Rattle.wire.specs.declared.Writer.{Writer}
use Rattle.token.specs.Kind.{k_right_curly}
use Rattle.token.specs.Token.{Token}
use Rattle.token.specs.Places.{tokens_from, Wf}
use Rattle.schema.specs.Encode.{encode_fields, encode_declarations}
use Rattle.grammar.specs.Tree.{FieldTree, DeclarationTree}
use Rattle.grammar.specs.Meaning.{field_of, declaration_of}
use Rattle.grammar.specs.Reading.{Reading, is, parse_fields, parse_declaration, parse_declarations, parse_schema}
use Rattle.parser.specs.Steps.{ahead}
use Rattle.parser.specs.declared.Cursor.{Cursor}
use Rattle.places.specs.Imports.{Room, Orders}
use Rattle.places.specs.declared.Ordered.{Ordered}
use Rattle.imports.specs.Imports.{last_end}

pub record Emits {A : Type 0} (t : Bytes) (w : Writer) (encode : A → Bytes) (R : Reading A) (w' : Writer) (c : Cursor) : Type 0 where
  pub puts : Puts w (encode R.value) w'
  pub rest : ahead t c ≡ R.rest
  pub wf : Wf t c.at

-- a cursor of a good table stands before these tokens
pub record Before (t : Bytes) (ts : List Token) (c : Cursor) : Type 0 where
  pub tokens : ahead t c ≡ ts
  pub wf : Wf t c.at

-- The readings of a table from a cursor on, and what they give in a schema table.
abbrev pub fields_from : Bytes → Cursor → Reading (List FieldTree)
fields_from t c = parse_fields (length (ahead t c)) (last_end t) (ahead t c)

abbrev pub fields_bytes : List FieldTree → Bytes
fields_bytes fs = encode_fields (map field_of fs)

abbrev pub declaration_from : Bytes → Cursor → Reading (List DeclarationTree)
declaration_from t c = parse_declaration (last_end t) (ahead t c)

abbrev pub declarations_from : Bytes → Cursor → Reading (List DeclarationTree)
declarations_from t c = parse_declarations (length (ahead t c)) (last_end t) (ahead t c)

abbrev pub declarations_bytes : List DeclarationTree → Bytes
declarations_bytes ds = encode_declarations (map declaration_of ds)

-- not `}`
abbrev pub is_other : ℕ → Bool
is_other k = not (is k_right_curly k)

-- a table that passed the check and is read without errors, and its imports in order
pub record Readable (t : Bytes) (imports : List ℕ) (order : Ordered) (items spare : List ℕ) : Type 0 where
  pub wf : Wf t 0
  pub errors : (parse_schema (tokens_from t 0)).errors ≡ []
  pub room : Room (tokens_from t 0) items spare
  pub orders : Orders t imports order
