-- A schema table that reading wrote is one to the writer: its schema is within the limits, and it is not too long.
use Prim.Native.Nat.{ℕ, ◌≤◌}
use mathlib.Core.Path.{◌≡◌, refl, ap, ◌∙◌}
use mathlib.Core.Bool.{Bool, true, false}
use mathlib.Core.Option.{some}
use mathlib.Core.List.{List}
use lib.Dec.{leb}
use lib.ListN.{length, take}
use borrow.Author.Tests.{leb-true, leb-false, le-leb, lt-leb, le-ltb}
use Rattle.std.specs.Prelude.{Result, Ok, Err}
use Rattle.wire.specs.Bytes.{Bytes}
use Rattle.wire.specs.Pick.{pick}
use Rattle.wire.specs.Put.{laid}
use Rattle.wire.specs.Refusal.{number_of, refused_by}
use Rattle.wire.specs.declared.Refused.{Refused}
use Rattle.wire.specs.declared.Refusal.TheVariants.{NoRoom}
use Rattle.wire.proofs.Numbers.{AllBytes}
use Rattle.token.specs.Token.{Token}
use Rattle.token.specs.Table.{tokens, decode}
use Rattle.schema.specs.Ast.{Schema}
use Rattle.schema.specs.Encode.{encode_schema}
use Rattle.schema.specs.Decode.{decode_schema}
use Rattle.text.specs.Text.{text_of}
use Rattle.grammar.specs.Tree.{SchemaTree}
use Rattle.grammar.specs.Meaning.{schema_of}
use Rattle.grammar.specs.Derivation.{Derives}
use Rattle.grammar.proofs.Demand3.{complete}
use Rattle.grammar.proofs.Within.{schema_back}
use Rattle.grammar.proofs.Twice.{schema_small}
use Rattle.writer.specs.Written.{Writes}
use Rattle.demands.specs.Outcome.{SchemaRead, TextWritten}
use Rattle.demands.proofs.Told.{read_derivation}

writes_text : {t out out' : Bytes} {r : Result ℕ Refused} (s : Schema) → length t ≤ 131072 → decode_schema t ≡ some s
    → Writes t out out' r → TextWritten s out out' r
unfolding pick laid
writes_text {t} {out} {out'} {r} s l d p =
    let text = text_of s in
    let big = le-ltb 131072 (length t) l in
    let a : r ≡ pick (leb (length text) (length out)) (Ok (length text)) (Err (refused_by NoRoom)) = rw (big, d) at p.answer in
    let b : out' ≡ laid out text = rw (big, d) at p.buffer in
    record {
      fits = λ h. let e = le-leb (length text) (length out) h in (rw e at a, rw e at b);
      long = λ h. let e = lt-leb (length text) (length out) h in (rw e at a, rw e at b);
    }

pub text_of_read : {table before after out out' : Bytes} {n : ℕ} {r : Result ℕ Refused} (ts : List Token) (tree : SchemaTree) → AllBytes table
    → decode table ≡ tokens ts → Derives ts tree → SchemaRead table before after n
    → Writes (take n after) out out' r → TextWritten (schema_of tree) out out' r
text_of_read {table} {before} {after} {out} {out'} {n} {r} ts tree a d t m p =
    let s = schema_of tree in
    let c = complete ts tree t in
    let e = m.wrote.bytes ∙ ap (λ (x : SchemaTree). encode_schema (schema_of x)) (read_derivation ts d m t) in
    writes_text s (schema_small table ts s d c) (schema_back table ts s a d c) (rw e at p)

pub refused_long : {s : Schema} {out out' : Bytes} {r : Result ℕ Refused} {e : Refused} → TextWritten s out out' r → r ≡ Err e
    → number_of e.refusal ≡ 8
refused_long {s} {out} {out'} {r} {e} t q = go (leb (length (text_of s)) (length out)) refl
  where
    go : (b : Bool) → leb (length (text_of s)) (length out) ≡ b → number_of e.refusal ≡ 8
    go true h = let k = (t.fits (leb-true (length (text_of s)) (length out) h)).0 in absurd cc
    go false h = let k = (t.long (leb-false (length (text_of s)) (length out) h)).0 in let f : e ≡ refused_by NoRoom = cc in rw f
