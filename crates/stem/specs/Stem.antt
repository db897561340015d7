-- Document 01, "Import name". Stem: split at `/`, drop empty and `.` parts; the last left, unless none or `..`, is cut at its last dot when that
-- isn't its first byte. A path without a stem has the empty list here: no stem is empty.
use Rattle.std.specs.Prelude.{ℕ, suc, Bool, true, false, ◌&&◌, ◌||◌, not, List, [], ◌∷◌, eqb, length, get_or, take}
use Rattle.wire.specs.Bytes.{Bytes}
use Rattle.wire.specs.Pick.{pick}

-- what stands before the first `/`, and what stands between the later ones
pub record Parts : Type 0 where
  pub first : Bytes
  pub later : List Bytes

abbrev pub parts : Bytes → Parts
parts [] = record { first = []; later = [] }
parts (b ∷ bs) =
    elim (eqb b 47) [
      | true ↦ record { first = []; later = (parts bs).first ∷ (parts bs).later }
      | false ↦ record { first = b ∷ (parts bs).first; later = (parts bs).later }
    ]

-- neither empty nor `.`
abbrev pub kept : Bytes → Bool
kept p = not (eqb (length p) 0 || (eqb (length p) 1 && eqb (get_or p 0 0) 46))

-- the last part that is kept, or `best` where none is
abbrev pub last_kept : Bytes → List Bytes → Bytes
last_kept best [] = best
last_kept best (p ∷ ps) = last_kept (pick (kept p) p best) ps

unfoldable pub last_part : Bytes → Bytes
last_part path = last_kept [] ((parts path).first ∷ (parts path).later)

-- `..`
unfoldable pub is_parent : Bytes → Bool
is_parent p = eqb (length p) 2 && (eqb (get_or p 0 0) 46 && eqb (get_or p 1 0) 46)

-- the place of the last dot, counted from i, or `best` where there is none
abbrev pub last_dot : ℕ → ℕ → Bytes → ℕ
last_dot i best [] = best
last_dot i best (b ∷ bs) = last_dot (suc i) (pick (eqb b 46) i best) bs

unfoldable pub cut : Bytes → Bytes
cut p = pick (eqb (last_dot 0 0 p) 0) p (take (last_dot 0 0 p) p)

unfoldable pub stem_of : Bytes → Bytes
stem_of path = pick (is_parent (last_part path)) [] (cut (last_part path))

-- the identifier after `as`, else the stem of the path; an identifier is never empty, so the empty one stands for none
unfoldable pub import_name : Bytes → Bytes → Bytes
import_name path identifier = pick (eqb (length identifier) 0) (stem_of path) identifier
