-- Deleted indices: their numbers collected, put in order, written.
use Prim.Native.Nat.{ℕ, ◌+◌, ◌*◌}
use mathlib.Core.Path.{◌≡◌, refl, sym, ap, ◌∙◌}
use mathlib.Core.Bool.{true, false}
use mathlib.Core.List.{List, [], ◌∷◌, map-map}
use native.Mathlib.Omega.{arith}
use lib.Dec.{eqb, ltb}
use lib.ListN.{length, take}
use Rattle.wire.specs.Bytes.{Bytes}
use Rattle.wire.specs.Puts.{Puts}
use Rattle.wire.specs.declared.Writer.{Writer}
use Rattle.wire.specs.Record.{head_bytes, record_bytes}
use Rattle.token.specs.Token.{Token}
use Rattle.token.specs.Kind.{k_deleted}
use Rattle.token.specs.Places.{tok_at}
use Rattle.schema.specs.Kind.{s_deleted}
use Rattle.schema.specs.Encode.{indices, encode_deleted}
use Rattle.schema.proofs.Parts.{indices-length}
use Rattle.grammar.specs.Sort.{sort_by}
use Rattle.grammar.specs.Meaning.{number_of}
use Rattle.grammar.specs.Error.{kind_at}
use Rattle.grammar.specs.Reading.{is, parse_deleted}
use Rattle.parser.specs.Steps.{ahead, Stepped}
use Rattle.parser.specs.declared.Cursor.{Cursor}
use Rattle.sorted.specs.Item.{numbers}
use Rattle.sorted.proofs.Halving.{sort_length}
use Rattle.sorted.proofs.Theorems.{numbers_sorted}
use Rattle.places.specs.Places.{Numbers}
use Rattle.places.specs.declared.Collected.{Collected}
use Rattle.places.proofs.Gathered.{integers_tokens}
use Rattle.records.proofs.Laws.{put_record}
use Rattle.emit.specs.Indices.{deleted_bytes}

-- The record.
pub no_indices : (ns : List ℕ) → length ns ≡ 0 → encode_deleted (sort_by ltb ns) ≡ []
no_indices [] z = refl
no_indices (n ∷ ns) z = absurd (omega arith)

some_indices : (ns : List ℕ) → (length ns ≡ 0 → ⊥) → record_bytes s_deleted 0 0 (indices ns) ≡ encode_deleted ns
some_indices [] n = absurd (n refl)
some_indices (x ∷ ns) n = refl

pub indices_put : (items : List ℕ) {items' : List ℕ} {w w₁ w₂ : Writer} → (length items ≡ 0 → ⊥) → items' ≡ sort_by numbers.item_before items
    → Puts w (head_bytes (12 + 8 * length items') s_deleted 0 0) w₁ → Puts w₁ (indices items') w₂ → Puts w (encode_deleted (sort_by ltb items)) w₂
indices_put items {items'} n e p q =
    let k : length items' ≡ length items = ap length e ∙ sort_length numbers.item_before items in
    rw (← numbers_sorted items, ← e) (rw (some_indices items' λ z. n (sym k ∙ z)) at (put_record s_deleted 0 0 p q (omega (arith, indices-length items'))))

-- What stands before `}`.
pub no_deleted : (t : Bytes) (c : Cursor) → is k_deleted (kind_at (ahead t c)) ≡ false → deleted_bytes (parse_deleted (ahead t c)).value ≡ []
no_deleted t c = go (ahead t c)
  where
    go : (ts : List Token) → is k_deleted (kind_at ts) ≡ false → deleted_bytes (parse_deleted ts).value ≡ []
    go [] n = refl
    go (x ∷ xs) n = rw (n, parse_deleted)

pub some_deleted : {t : Bytes} {c d : Cursor} {items : List ℕ} {r : Collected} → is k_deleted (kind_at (ahead t c)) ≡ true → Stepped t c d → Numbers t d items r
    → encode_deleted (sort_by ltb (take r.count items)) ≡ deleted_bytes (parse_deleted (ahead t c)).value
some_deleted {t} {c} {d} {items} {r} k p g =
    let e : eqb (tok_at t c.at).kind k_deleted ≡ true = rw p.first at k in
    rw (p.first, e, parse_deleted) (rw (← integers_tokens t d.at g.places g.walk, map-map number_of (tok_at t) g.places, ← g.numbers) refl)
