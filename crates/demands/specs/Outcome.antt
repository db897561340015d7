-- What a call that was answered has done, in the words of document 01.
use Rattle.std.specs.Prelude.{ℕ, ◌*◌, ◌≤◌, ◌<◌, ◌≡◌, List, ◌++◌, length, take, drop, Result, Ok, Err}
use Rattle.wire.specs.Bytes.{Bytes}
use Rattle.wire.specs.Refusal.{refused_by}
use Rattle.wire.specs.declared.Refused.{Refused}
use Rattle.wire.specs.declared.Refusal.TheVariants.{NoRoom}
use Rattle.token.specs.Token.{Token}
use Rattle.token.specs.Table.{tokens, decode}
use Rattle.schema.specs.Ast.{Schema}
use Rattle.schema.specs.Encode.{encode_schema}
use Rattle.text.specs.Text.{text_of}
use Rattle.grammar.specs.Tree.{SchemaTree}
use Rattle.grammar.specs.Meaning.{schema_of}
use Rattle.grammar.specs.Error.{Error, errors_bytes}
use Rattle.grammar.specs.Derivation.{Derives}
use Rattle.grammar.specs.Reading.{errors, parse}

-- the first n bytes are these, and those after them are as they were
pub record Front (bs before after : Bytes) (n : ℕ) : Type 0 where
  pub long : n ≡ length bs
  pub bytes : take n after ≡ bs
  pub rest : drop n after ≡ drop n before

-- a derivation of the table's tokens was read, and its schema written
pub record SchemaRead (table before after : Bytes) (n : ℕ) : Type 0 where
  pub list : List Token
  pub decodes : decode table ≡ tokens list
  pub tree : SchemaTree
  pub derives : Derives list tree
  pub wrote : Front (encode_schema (schema_of tree)) before after n

-- the table's tokens have no derivation, and the errors were written, 14 bytes each
pub record ErrorsRead (table before after : Bytes) (n : ℕ) : Type 0 where
  pub list : List Token
  pub decodes : decode table ≡ tokens list
  pub none : ¬ ((tree : SchemaTree) × Derives list tree)
  pub found : List Error
  pub parses : parse list ≡ errors found
  pub count : n ≡ 14 * length found
  pub wrote : Front (errors_bytes found) before after n

-- a schema's text was written, or is longer than the buffer: R8
pub record TextWritten (s : Schema) (out out' : Bytes) (r : Result ℕ Refused) : Type 0 where
  pub fits : length (text_of s) ≤ length out → (r ≡ Ok (length (text_of s))) × (out' ≡ text_of s ++ drop (length (text_of s)) out)
  pub long : length out < length (text_of s) → (r ≡ Err (refused_by NoRoom)) × (out' ≡ out)

-- a refusal of writing or of a function on names: which numbers it can have, the offset 0, and the buffer as it was
pub record Refusal (Number : Type 0) (o : ℕ) (out out' : Bytes) : Type 0 where
  pub number : Number
  pub offset : o ≡ 0
  pub buffer : out' ≡ out
