-- What each writer has done that goes on in the table: what it put, where w was the writer and w' is now, and the place `next` of the table that it
-- left, from which on the rest of the schema is still to be put.
use Rattle.std.specs.Prelude.{ℕ, ◌<◌, ◌≤◌, ◌≡◌, Bool, true, false, ◌∷◌, ◌++◌, eqb, length}
use Rattle.wire.specs.Bytes.{Bytes, bytes}
use Rattle.wire.specs.Puts.{Puts}
use Rattle.wire.specs.declared.Writer.{Writer}
use Rattle.schema.specs.Kind.{s_field}
use Rattle.schema.specs.Table.{records_of, is_type, is_inside, is_importing, is_outside}
use Rattle.schema.specs.Decode.{imports_of, fields_of, deleted_of, declarations_of, schema_of}
use Rattle.schema.specs.Walk.{records_from, kind_at, Stands}
use Rattle.text.specs.Text.{is_empty, opening_text, imports_text, fields_text, deleted_text, declaration_text}
use Rattle.writer.specs.Parts.{depth_at, declaration_at}

-- a type begins here, with `left` arrays around it, at most 64
pub record Nested (t : Bytes) (at left : ℕ) : Type 0 where
  pub stands : Stands t at is_type
  pub depth : left ≡ depth_at t at
  pub few : left ≤ 64

-- a declaration begins here, or the table ends
pub record Outside (t : Bytes) (at : ℕ) : Type 0 where
  pub may : ℕ → Bool
  pub stands : Stands t at may
  pub begins : at < length t → is_outside (kind_at t at) ≡ true

-- an import or a declaration begins here, or the table ends
pub record Opened (t : Bytes) (at : ℕ) : Type 0 where
  pub may : ℕ → Bool
  pub stands : Stands t at may
  pub begins : at < length t → is_importing (kind_at t at) ≡ true

-- the fields of a declaration are behind
pub record Fielded (t : Bytes) (at : ℕ) : Type 0 where
  pub stands : Stands t at is_inside
  pub stopped : at < length t → eqb (kind_at t at) s_field ≡ false

pub record Fields (t : Bytes) (at : ℕ) (w : Writer) (next : ℕ) (w' : Writer) : Type 0 where
  pub put : Puts w (fields_text false false (fields_of (records_from t at))) w'
  pub fielded : Fielded t next
  pub some : is_empty (fields_of (records_from t at)) ≡ eqb next at
  pub deleted : deleted_of (records_from t at) ≡ deleted_of (records_from t next)
  pub later : declarations_of (records_from t at) ≡ declarations_of (records_from t next)
  pub onward : at ≤ next

pub record Ended (t : Bytes) (at : ℕ) (fields : Bool) (w : Writer) (next : ℕ) (w' : Writer) : Type 0 where
  pub put : Puts w (deleted_text fields (deleted_of (records_from t at)) ++ bytes "}\n") w'
  pub outside : Outside t next
  pub later : declarations_of (records_from t at) ≡ declarations_of (records_from t next)
  pub onward : at ≤ next

pub record Declared (t : Bytes) (at : ℕ) (w : Writer) (next : ℕ) (w' : Writer) : Type 0 where
  pub put : Puts w (declaration_text (declaration_at t at)) w'
  pub outside : Outside t next
  pub later : declarations_of (records_from t at) ≡ declaration_at t at ∷ declarations_of (records_from t next)
  pub onward : at < next

pub record Imported (t : Bytes) (at : ℕ) (w : Writer) (next : ℕ) (w' : Writer) : Type 0 where
  pub put : Puts w (imports_text (imports_of (records_from t at))) w'
  pub outside : Outside t next
  pub some : is_empty (imports_of (records_from t at)) ≡ eqb next at
  pub later : declarations_of (records_from t at) ≡ declarations_of (records_from t next)

-- the schema comment, where there is one
pub record Commented (t : Bytes) (w : Writer) (next : ℕ) (w' : Writer) : Type 0 where
  pub put : Puts w (opening_text (schema_of (records_of t))) w'
  pub opened : Opened t next
  pub imports : imports_of (records_of t) ≡ imports_of (records_from t next)
  pub later : declarations_of (records_of t) ≡ declarations_of (records_from t next)
