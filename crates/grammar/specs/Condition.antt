-- The conditions that are not grammar: each import's name can be found and differs in snake case from the others, and no declaration lists a
-- deleted index twice. The errors 14, 15 and 16 report what breaks them.
use Rattle.std.specs.Prelude.{◌≡◌, Bool, false, ◌||◌, eqb}
use Rattle.std.proofs.Math.Option.{Option, none, some}
use mathlib.Core.List.{List, [], ◌∷◌, ◌++◌, map, Memᴰ}
use Rattle.wire.specs.Bytes.{Bytes}
use Rattle.wire.specs.Pick.{pick}
use Rattle.identifier.specs.Forms.{snake_of}
use Rattle.identifier.specs.Order.{same_name}
use Rattle.token.specs.Token.{Token}
use Rattle.grammar.specs.Tree.{All, DeletedPart, DeclarationTree, ImportTree, SchemaTree}
use Rattle.grammar.specs.Place.{span}
use Rattle.grammar.specs.Meaning.{number_of, deleted_of, is_nameless, name_of, import_of}
use Rattle.grammar.specs.Error.{Error, error_over}

module _ {A : Type 0} where
  abbrev pub Distinct : List A → Type 0
  Distinct [] = Unit {0}
  Distinct (x ∷ xs) = ¬ (Memᴰ x xs) × Distinct xs

  abbrev pub any_of : (A → Bool) → List A → Bool
  any_of p [] = false
  any_of p (x ∷ xs) = p x || any_of p xs

abbrev pub Named : ImportTree → Type 0
Named i = is_nameless i ≡ false

abbrev pub key_of : ImportTree → Bytes
key_of i = snake_of (name_of i)

abbrev pub DeletedOnce : DeclarationTree → Type 0
DeletedOnce d = Distinct (deleted_of d.deleted)

pub record Good (s : SchemaTree) : Type 0 where
  pub named : All Named s.imports
  pub distinct : Distinct (map key_of s.imports)
  pub once : All DeletedOnce s.declarations

abbrev pub same_import : ImportTree → ImportTree → Bool
same_import i j = same_name (name_of i) (name_of j)

abbrev pub same_index : Token → Token → Bool
same_index t u = eqb (number_of t) (number_of u)

-- 14 import name can't be inferred, 15 import name already taken by one of the imports before; both over the import
abbrev pub import_errors : List ImportTree → ImportTree → List Error
import_errors before i =
    pick (is_nameless i) (error_over 14 (import_of i).range ∷ []) []
    ++ pick (any_of (same_import i) before) (error_over 15 (import_of i).range ∷ []) []

-- 16 index already deleted, by one of the tokens before; at the token
abbrev pub index_errors : List Token → List Token → List Error
index_errors before [] = []
index_errors before (t ∷ ts) =
    pick (any_of (same_index t) before) (error_over 16 (span t t) ∷ []) [] ++ index_errors (t ∷ before) ts

-- The errors of a derivation, in the order of its tokens.
abbrev pub imports_errors : List ImportTree → List ImportTree → List Error
imports_errors before [] = []
imports_errors before (i ∷ is) = import_errors before i ++ imports_errors (i ∷ before) is

abbrev pub deleted_errors : Option DeletedPart → List Error
deleted_errors none = []
deleted_errors (some p) = index_errors [] p.indices

abbrev pub declarations_errors : List DeclarationTree → List Error
declarations_errors [] = []
declarations_errors (d ∷ ds) = deleted_errors d.deleted ++ declarations_errors ds

abbrev pub condition_errors : SchemaTree → List Error
condition_errors s = imports_errors [] s.imports ++ declarations_errors s.declarations
