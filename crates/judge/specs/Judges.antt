-- What judging promises of a part of the schema: the errors of its reading are written, and the next cursor stands before the tokens that the
-- reading leaves.
use Rattle.std.specs.Prelude.{ℕ, ◌≤◌, ◌≡◌, List, length}
use Rattle.wire.specs.Bytes.{Bytes}
use Rattle.wire.specs.Puts.{Puts}
use Rattle.wire.specs.declared.Writer.{Writer}
use Rattle.token.specs.Token.{Token, end_of}
use Rattle.token.specs.Places.{tokens_from, Wf}
use Rattle.schema.specs.Ast.{Range}
use Rattle.grammar.specs.Tree.{FieldTree, DeclarationTree, ImportTree}
use Rattle.grammar.specs.Error.{Error, errors_bytes}
use Rattle.grammar.specs.Condition.{index_errors}
use Rattle.grammar.specs.Reading.{Reading, is, front, skip, parse_fields, parse_declarations, parse_imports}
use Rattle.token.specs.Kind.{k_integer}
use Rattle.parser.specs.Steps.{ahead}
use Rattle.parser.specs.declared.Cursor.{Cursor}
use Rattle.records.specs.Pieces as pieces
use Rattle.records.specs.declared.SourceRange.{SourceRange}

pub record Judges {A : Type 0} (t : Bytes) (w : Writer) (R : Reading A) (w' : Writer) (c : Cursor) : Type 0 where
  pub wrote : Puts w (errors_bytes R.errors) w'
  pub rest : ahead t c ≡ R.rest
  pub wf : Wf t c.at

-- a cursor of a good table stands before these tokens
pub record Before (t : Bytes) (ts : List Token) (c : Cursor) : Type 0 where
  pub tokens : ahead t c ≡ ts
  pub wf : Wf t c.at

-- a cursor of a good table, and room in two lent lists for the places of the tokens ahead
pub record Room (t : Bytes) (c : Cursor) (items spare : List ℕ) : Type 0 where
  pub wf : Wf t c.at
  pub places : length (ahead t c) ≤ length items
  pub work : length (ahead t c) ≤ length spare

-- a table that passed the check, and its last token's end
pub record Judgeable (t : Bytes) (end : ℕ) (items spare : List ℕ) : Type 0 where
  pub room : Room t (record { at = 0 }) items spare
  pub last : end ≡ end_of 0 (tokens_from t 0)

abbrev pub source_range : Range → SourceRange
source_range = pieces.source_range

abbrev pub error_of : ℕ → ℕ → ℕ → ℕ → Error
error_of number start end found = record { number = number; range = record { start = start; end = end }; found = found }

-- the loops of the grammar, with steps enough
abbrev pub fields_of : ℕ → List Token → Reading (List FieldTree)
fields_of end ts = parse_fields (length ts) end ts

abbrev pub declarations_of : ℕ → List Token → Reading (List DeclarationTree)
declarations_of end ts = parse_declarations (length ts) end ts

abbrev pub imports_of : ℕ → List ImportTree → List Token → Reading (List ImportTree)
imports_of end before ts = parse_imports (length ts) end before ts

-- the Integers after `deleted`, given those before
abbrev pub integers_of : List Token → List Token → Reading (List Token)
integers_of before ts =
    record { errors = index_errors before (front (is k_integer) ts); value = front (is k_integer) ts; rest = skip (is k_integer) ts }
