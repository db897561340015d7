-- The imports of a token table, past the schema's comment, and what putting them in order promises.
use Rattle.std.specs.Prelude.{ℕ, ◌≤◌, ◌<◌, ◌≡◌, Bool, true, false, not, ◌&&◌, List, [], ◌∷◌, length, take, Option, is_some}
use Rattle.wire.specs.Bytes.{Bytes}
use Rattle.token.specs.Kind.{k_import}
use Rattle.token.specs.Token.{Token}
use Rattle.token.specs.Places.{tok_at, next_at, tokens_from, Wf}
use Rattle.grammar.specs.Tree.{Is}
use Rattle.grammar.specs.Sort.{sort_by}
use Rattle.grammar.specs.Meaning.{is_nameless}
use Rattle.grammar.specs.Error.{kind_at}
use Rattle.grammar.specs.Condition.{Named, any_of}
use Rattle.grammar.specs.Reading.{fail, is, parse_import, parse_opening}
use Rattle.parser.specs.Trees.{token_there}
use Rattle.parser.specs.Laid.{place_if}
use Rattle.parser.specs.Steps.{ahead}
use Rattle.parser.specs.declared.Cursor.{Cursor}
use Rattle.records.specs.Here.{CommentHere}
use Rattle.sorted.specs.Item.{import_at, place_of, names, IsToken, IsImport, IsNamed, NamedAt}
use Rattle.sorted.specs.Sorted.{any_next}
use Rattle.places.specs.Places.{in_order}
use Rattle.places.specs.declared.Walked.{Walked}
use Rattle.places.specs.declared.Ordered.{Ordered}

-- two lent lists have room for a place of each token
pub record Room (ts : List Token) (items spare : List ℕ) : Type 0 where
  pub list : length ts ≤ length items
  pub work : length ts ≤ length spare

-- the schema's comment, where there is one, and the cursor past it
pub record Opening (t : Bytes) (r : Option ℕ × Cursor) : Type 0 where
  pub read : parse_opening (tokens_from t 0) ≡ record { errors = []; value = token_there t r.0; rest = ahead t r.1 }
  pub comment : CommentHere t r.0
  pub place : r.0 ≡ place_if (is_some r.0) 0
  pub short : length (ahead t r.1) ≤ length (tokens_from t 0)
  pub wf : Wf t r.1.at

-- `import` stands at a place
pub record Keyword (t : Bytes) (at : ℕ) : Type 0 where
  pub token : IsToken t at
  pub kind : Is k_import (tok_at t at)

-- an import that has a name stands at the item's place
pub record NamedHere (t : Bytes) (x : ℕ) : Type 0 where
  pub keyword : Is k_import (tok_at t (place_of x))
  pub item : IsNamed t x
  pub named : Named (import_at t (place_of x))

-- The imports that are read from a place on, as items, and the place past them. A failed import is dropped, and reading goes on at the next place:
-- `whole` says that none is.
pub data Imports (t : Bytes) : ℕ → Bool → List ℕ → ℕ → Type 0 where
  none : {at : ℕ} → is k_import (kind_at (tokens_from t at)) ≡ false → Imports t at true [] at
  read : {at next end x : ℕ} {whole : Bool} {xs : List ℕ} → Keyword t at → NamedAt t at x → (i : IsImport t at) → i.rest ≡ tokens_from t next → Wf t next
      → at < next
      → Imports t next whole xs end → Imports t at whole (x ∷ xs) end
  dropped : {at next end : ℕ} {whole : Bool} {xs : List ℕ} → Keyword t at → (n : ℕ)
      → parse_import (tok_at t at) (tokens_from t (next_at t at)) ≡ fail n (tokens_from t next)
      → Wf t next → at < next → Imports t next whole xs end → Imports t at false xs end

unfoldable pub lacks_name : Bytes → ℕ → Bool
lacks_name t x = is_nameless (import_at t (place_of x))

-- the first items are the imports from a cursor on; r is sound where none is dropped and each has a name
pub record Walks (t : Bytes) (from : Cursor) (items : List ℕ) (r : Walked) : Type 0 where
  pub few : r.count ≤ length items
  pub short : r.count ≤ length (ahead t from)
  pub whole : Bool
  pub walk : Imports t from.at whole (take r.count items) r.next.at
  pub sound : r.sound ≡ (whole && not (any_of (lacks_name t) (take r.count items)))
  pub wf : Wf t r.next.at

-- the imports past the schema's comment, in order; r is sound where there is no error in them
pub record Orders (t : Bytes) (imports : List ℕ) (r : Ordered) : Type 0 where
  pub opening : Opening t (r.comment, r.from)
  pub whole : Bool
  pub items : List ℕ
  pub walk : Imports t r.from.at whole items r.next.at
  pub repeat : r.repeated ≡ any_next (names t).same_item (sort_by (names t).item_before items)
  pub sound : r.sound ≡ (whole && (not (any_of (lacks_name t) items) && not r.repeated))
  pub list : imports ≡ in_order (names t) r.repeated items
  pub few : length imports ≤ length (tokens_from t 0)
  pub wf : Wf t r.next.at

-- the first items are these
pub record OrdersIn (t : Bytes) (items : List ℕ) (r : Ordered) : Type 0 where
  pub few : r.count ≤ length items
  pub orders : Orders t (take r.count items) r
