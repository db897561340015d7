-- Imports, one after the other: each is read again at its item's place, and its record is written.
use Prim.Native.Nat.{ℕ, suc, ◌+◌, ◌≤◌, ◌<◌}
use mathlib.Core.Path.{◌≡◌, sym, ◌∙◌}
use mathlib.Core.Bool.{Bool, true, false}
use mathlib.Core.List.{List, [], ◌∷◌, ◌++◌}
use native.Mathlib.Omega.{arith}
use native.Mathlib.Numerals.{add-one}
use lib.ListN.{length, get_or, drop, drop_of_length-le}
use lib.Seq.{drop-cons}
use Rattle.std.specs.Prelude.{is_some}
use Rattle.wire.specs.Bytes.{Bytes}
use Rattle.wire.specs.Pick.{pick}
use Rattle.wire.specs.Puts.{Puts}
use Rattle.wire.specs.Record.{record_bytes}
use Rattle.wire.specs.declared.Writer.{Writer}
use Rattle.wire.proofs.Puts.{Rest, rest_step, rest_none}
use Rattle.stem.proofs.Laws.{either_name}
use Rattle.token.specs.Token.{Token}
use Rattle.token.specs.Payload.{is_payload}
use Rattle.token.specs.Places.{tok_at, next_at, tokens_from, Wf}
use Rattle.token.proofs.Walk.{wf_good}
use Rattle.schema.specs.Kind.{s_import}
use Rattle.schema.specs.Encode.{sized}
use Rattle.schema.proofs.Payloads.{path_short}
use Rattle.grammar.specs.Tree.{IfAny, WfAlias, WfImport}
use Rattle.grammar.specs.Meaning.{alias_of, found_name}
use Rattle.grammar.specs.Error.{kind_at}
use Rattle.grammar.proofs.Imports.{import_sound}
use Rattle.grammar.proofs.Stems.{stem_short}
use Rattle.parser.specs.Trees as places
use Rattle.parser.specs.Steps.{Stands, ImportPassed}
use Rattle.parser.specs.declared.Cursor.{Cursor}
use Rattle.parser.specs.declared.ImportPlaces.{ImportPlaces}
use Rattle.parser.proofs.Laws.{kind_there}
use Rattle.sorted.specs.Item.{import_at, place_of, IsImport}
use Rattle.sorted.proofs.Items.{import_read}
use Rattle.places.specs.Imports.{NamedHere}
use Rattle.records.proofs.Laws as records
use Rattle.imports.specs.Imports.{meaning_at, encode_import}

alias_short : {t : Bytes} {at : ℕ} (keyword : Token) (b : Bool) → Stands t at → IfAny WfAlias (places.when b (record { keyword = keyword; name = tok_at t at }))
    → length (alias_of (places.when b (record { keyword = keyword; name = tok_at t at }))) ≤ 128
alias_short keyword true s w = records.name_short s w.name
alias_short keyword false s w = omega arith

-- One import.
module _ {t : Bytes} {x at : ℕ} (e : at ≡ place_of x) (w : NamedHere t x) where
  pub here : IsImport t at
  here = rw e w.item.import

  -- it can be read
  pub due : (Wf t at) × (0 < kind_at (tokens_from t at))
  due = let s = here.token in (s.0, omega (arith, kind_there t at s.1, rw (← e) at w.keyword))

  module _ {i : ImportPlaces} {after : Cursor} (p : ImportPassed t (record { at = at }) i after) where
    -- the tree at its place is the one that was read there
    tree_is : import_at t (place_of x) ≡ places.import_at t i
    tree_is = let h = here in let q = sym h.read ∙ p.read.gives in let f = (import_read h).is in rw (← e) cc

    wf : WfImport (places.import_at t i)
    wf = (import_sound (tok_at t at) (tokens_from t (next_at t at)) (rw e w.keyword) p.read.gives).1

    path_fits : length (tok_at t i.path).payload ≤ 128
    unfolding is_payload pick
    path_fits = let s = p.stands.path in path_short _ (rw wf.path at (wf_good s.0 s.1).sound.payload)

    name_fits : length (found_name (import_at t (place_of x))) ≤ 128
    name_fits =
        let path = (tok_at t i.path).payload in
        rw tree_is
        (either_name (λ n. length n ≤ 128) path (alias_of (places.import_at t i).alias) (omega (arith, stem_short path, path_fits))
        (alias_short (tok_at t (next_at t i.path)) (is_some i.alias) p.stands.last wf.alias))

    module _ {name path : Bytes} (n : name ≡ found_name (import_at t (place_of x))) (h : path ≡ (tok_at t i.path).payload) where
      pub fits : length name + length path < 65522
      fits = rw (n, h) (omega (arith, name_fits, path_fits))

      pub import_is : record_bytes s_import (tok_at t at).start (tok_at t (places.last_place i)).end (sized name ++ path) ≡ encode_import (meaning_at t x)
      unfolding pick
      import_is = rw (n, h, w.named) (rw (tree_is, p.last, p.first))

-- Putting a list, one element after the other: what is left of it is still to put.
pub record Putting (bytes : List ℕ → Bytes) (items : List ℕ) (w₀ w : Writer) (i : ℕ) : Type 0 where
  pub left : Rest w (bytes (drop i items)) w₀ (bytes items)

module _ {bytes : List ℕ → Bytes} {items : List ℕ} {w₀ w : Writer} {i : ℕ} (s : Putting bytes items w₀ w i) where
  pub put_one : i < length items → {one : Bytes} {w' : Writer} → bytes (get_or items i 0 ∷ drop (suc i) items) ≡ one ++ bytes (drop (suc i) items)
      → Puts w one w' → Putting bytes items w₀ w' (i + 1)
  put_one h e p = record { left = rest_step p s.left (rw (add-one, drop-cons items i 0 h) e) }

  pub put_all : length items ≤ i → bytes [] ≡ [] → Puts w₀ (bytes items) w
  put_all h e = rest_none s.left (rw (drop_of_length-le items h) e)
