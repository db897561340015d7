-- What the check's answer says of the bytes.
use mathlib.Core.Path.{◌≡◌, refl, ap, ◌∙◌}
use mathlib.Core.Bool.{Bool, true, false}
use mathlib.Core.Option.{Option, none, some}
use Prim.Native.Nat.{ℕ, ◌≤◌, ◌<◌}
use native.Mathlib.Omega.{arith}
use borrow.Author.Tests.{lt-ltb, le-ltb, ltb-false}
use lib.Dec.{ltb}
use lib.ListN.{length}
use Rattle.wire.specs.Bytes.{Bytes}
use Rattle.wire.specs.Pick.{pick}
use Rattle.schema.specs.Ast.{Schema}
use Rattle.schema.specs.Table.{records_of, is_schema_table}
use Rattle.schema.specs.Decode.{schema_of, decode_schema}
use Rattle.schema.specs.Checked.{answer_of, checked}
use Rattle.std.specs.Prelude.{Ok, Err}
use Rattle.wire.specs.Refusal.{refused_by}
use Rattle.wire.specs.declared.Refusal.TheVariants.{TableTooLong, NotASchema}

-- where decoding gives a schema, the bytes are a schema table, and it holds that schema
pub record Decoded (t : Bytes) (s : Schema) : Type 0 where
  pub right : is_schema_table t ≡ true
  pub schema : s ≡ schema_of (records_of t)

pub decoded : (t : Bytes) (s : Schema) → decode_schema t ≡ some s → Decoded t s
unfolding decode_schema
decoded t s e = go (is_schema_table t) refl e
  where
    go : (b : Bool) → is_schema_table t ≡ b → pick b (some (schema_of (records_of t))) none ≡ some s → Decoded t s
    go true r e = unfold pick in record { right = r; schema = cc }
    go false r e = let z : ◌≡◌ {A = ℕ} 0 1 = unfold pick in cc in absurd (omega arith)

module _ (t : Bytes) where
  -- the ways of the check
  pub checked_long : 131072 < length t → Err (refused_by TableTooLong) ≡ checked t
  unfolding checked pick
  checked_long h = rw (lt-ltb 131072 (length t) h)

  module _ {b : Bool} (h : length t ≤ 131072) (e : b ≡ is_schema_table t) where
    pub checked_table : b ≡ true → Ok tt ≡ checked t
    unfolding checked decode_schema pick
    checked_table f = rw (le-ltb 131072 (length t) h, ← e, f)

    pub checked_other : b ≡ false → Err (refused_by NotASchema) ≡ checked t
    unfolding checked decode_schema pick
    checked_other f = rw (le-ltb 131072 (length t) h, ← e, f)

-- what passes it
pub record Passed (t : Bytes) : Type 0 where
  pub small : length t ≤ 131072
  pub right : is_schema_table t ≡ true
  pub decodes : decode_schema t ≡ some (schema_of (records_of t))

pub fine : (t : Bytes) → checked t ≡ Ok tt → Passed t
unfolding checked
fine t e = go (ltb 131072 (length t)) (decode_schema t) refl refl e
  where
    go : (b : Bool) (d : Option Schema) → ltb 131072 (length t) ≡ b → decode_schema t ≡ d
        → pick b (Err (refused_by TableTooLong)) (answer_of d) ≡ Ok tt → Passed t
    go true d p q e = let z : ◌≡◌ {A = ℕ} 0 1 = unfold pick in cc in absurd (omega arith)
    go false none p q e = let z : ◌≡◌ {A = ℕ} 0 1 = unfold pick in cc in absurd (omega arith)
    go false (some s) p q e =
        let d = decoded t s q in
        record { small = ltb-false 131072 (length t) p; right = d.right; decodes = q ∙ ap some d.schema }
