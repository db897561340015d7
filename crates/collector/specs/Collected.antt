-- Document 01, "one collector, holding a length and a count": what it holds after each rule, and at the end the length and the number of the list.
use Rattle.std.specs.Prelude.{ℕ, ◌+◌, ◌-◌, ◌/◌, ◌≤◌, ◌≡◌, [], length}
use Rattle.wire.specs.Bytes.{Bytes}
use Rattle.wire.specs.Put.{Wrote}
use Rattle.token.specs.Places.{tokens_from, Wf}
use Rattle.grammar.specs.Error.{errors_bytes}
use Rattle.grammar.specs.Reading.{parse_opening, parse_schema}
use Rattle.parser.specs.Steps.{ahead}
use Rattle.parser.specs.declared.Cursor.{Cursor}
use Rattle.judge.specs.Judges.{Before, imports_of, declarations_of}
use Rattle.collector.specs.declared.Collector.{Collector}

abbrev pub none : Collector
none = record { length = 0; count = 0 }

-- the list's end after one rule more; an error has 14 bytes
abbrev pub grown_to : Collector → ℕ → Collector
grown_to c to = record { length = to; count = c.count + (to - c.length) / 14 }

-- the list has a byte at least for each error, and its end doesn't fall
abbrev pub Counts : Collector → Type 0
Counts c = c.count ≤ c.length

pub record Grows (c : Collector) (to : ℕ) : Type 0 where
  pub few : Counts c
  pub on : c.length ≤ to

-- past the schema's comment the imports' errors are written from a place on, and then the declarations'
pub record ImportsFrom (t : Bytes) (end : ℕ) (o : Bytes) (at : ℕ) (o' : Bytes) (to : ℕ) (next : Cursor) : Type 0 where
  pub from : Cursor
  pub before : Before t (parse_opening (tokens_from t 0)).rest from
  pub wrote : Wrote o at (errors_bytes (imports_of end [] (ahead t from)).errors) o' to
  pub rest : ahead t next ≡ (imports_of end [] (ahead t from)).rest
  pub wf : Wf t next.at

abbrev pub DeclarationsFrom : Bytes → Cursor → ℕ → Bytes → ℕ → Bytes → ℕ → Type 0
DeclarationsFrom t from end o at o' to = Wrote o at (errors_bytes (declarations_of end (ahead t from)).errors) o' to

-- the same from the end of the list that a collector holds, which then holds the new end
pub record ImportsPushed (t : Bytes) (end : ℕ) (o : Bytes) (c : Collector) (o' : Bytes) (c' : Collector) (next : Cursor) : Type 0 where
  pub wrote : ImportsFrom t end o c.length o' c'.length next
  pub grown : c' ≡ grown_to c c'.length

pub record DeclarationsPushed (t : Bytes) (from : Cursor) (end : ℕ) (o : Bytes) (c : Collector) (o' : Bytes) (c' : Collector) : Type 0 where
  pub wrote : DeclarationsFrom t from end o c.length o' c'.length
  pub grown : c' ≡ grown_to c c'.length

-- the errors of the table's tokens are written from the front on, and the collector holds their bytes and their number
pub record Collected (t o o' : Bytes) (c : Collector) : Type 0 where
  pub wrote : Wrote o 0 (errors_bytes (parse_schema (tokens_from t 0)).errors) o' c.length
  pub number : c.count ≡ length (parse_schema (tokens_from t 0)).errors
