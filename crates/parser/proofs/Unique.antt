-- Each promise allows one answer: two that keep it are equal.
use Prim.Native.Nat.{ℕ, zero, suc, ◌+◌}
use mathlib.Core.Path.{◌≡◌, refl, sym, ap, ◌∙◌}
use mathlib.Core.Bool.{Bool, true, false}
use mathlib.Core.List.{List, [], ◌∷◌}
use native.Mathlib.Omega.{arith}
use borrow.Author.Tests.{ltb-true, ltb-false}
use lib.Dec.{eqb, ltb}
use lib.ListN.{length, get_or}
use Rattle.std.specs.Prelude.{Option, None, Some, Result, Ok, Err, is_some}
use Rattle.wire.specs.Bytes.{Bytes}
use Rattle.wire.specs.Pick.{pick}
use Rattle.token.specs.Token.{Token}
use Rattle.token.specs.Kind.{k_identifier}
use Rattle.token.specs.Places.{tok_at, next_at, tokens_from, Wf}
use Rattle.token.proofs.Walk.{tokens_end, tokens_step, wf_inside, wf_next, next_is, payload_length}
use Rattle.grammar.specs.Tree.{TypeTree, array, plain, single, dotted, TypePart, FieldTree, HeadTree, ImportTree}
use Rattle.grammar.specs.Reading.{Result as Answer, ok, fail}
use Rattle.grammar.proofs.Rules.{fail≢ok, cons≢nil}
use Rattle.parser.specs.Faults.{number_of}
use Rattle.parser.specs.Trees.{when, token_there, base_at, array_at, type_at, part_at}
use Rattle.parser.specs.Laid.{place_if, skip_at, type_laid, part_laid, field_laid, head_laid, import_laid}
use Rattle.parser.specs.Steps.{ahead, Stepped, Reads, Fails, Skipped, TypeRead, FieldRead, HeadRead, ImportRead}
use Rattle.parser.specs.declared.fault.Fault.{Fault}
use Rattle.parser.specs.declared.fault.Fault.TheVariants.{Declaration, StructName, ChoiceName, LeftCurly, RightCurly, ImportPath, ImportName, Field}
use Rattle.parser.specs.declared.fault.Fault.TheVariants.{FieldType, ImportBeforeDot, RightSquare, Equals, FieldIndex}
use Rattle.parser.specs.declared.fault.Fault.TheVariants.{NamelessImport, TakenName, DeletedTwice, AfterSchema, LoneComment}
use Rattle.parser.specs.declared.Cursor.{Cursor}
use Rattle.parser.specs.declared.Failure.{Failure}
use Rattle.parser.specs.declared.TypePlaces.{TypePlaces}
use Rattle.parser.specs.declared.PartPlaces.{PartPlaces}
use Rattle.parser.specs.declared.FieldPlaces.{FieldPlaces}
use Rattle.parser.specs.declared.HeadPlaces.{HeadPlaces}
use Rattle.parser.specs.declared.ImportPlaces.{ImportPlaces}

-- A place follows from the tokens ahead of it: their records fill the table from there on.
sizes_of : List Token → ℕ
sizes_of [] = 0
sizes_of (x ∷ xs) = 12 + length x.payload + sizes_of xs

filled : (t : Bytes) (ts : List Token) (at : ℕ) → Wf t at → tokens_from t at ≡ ts → at + sizes_of ts ≡ length t
unfolding sizes_of
filled t [] at w e = go (ltb at (length t)) refl
  where
    go : (b : Bool) → ltb at (length t) ≡ b → at + 0 ≡ length t
    go true l = absurd (cons≢nil (sym (tokens_step t at (ltb-true at (length t) l)) ∙ e))
    go false l = omega (arith, w.inside, ltb-false at (length t) l)
filled t (x ∷ xs) at w e = go (ltb at (length t)) refl (filled t xs)
  where
    go : (b : Bool) → ltb at (length t) ≡ b → ((n : ℕ) → Wf t n → tokens_from t n ≡ xs → n + sizes_of xs ≡ length t)
        → at + (12 + length x.payload + sizes_of xs) ≡ length t
    go false l ih = absurd (cons≢nil (sym e ∙ tokens_end t at (ltb-false at (length t) l)))
    go true l ih =
        let h = ltb-true at (length t) l in
        let s = sym (tokens_step t at h) ∙ e in
        let x' : tok_at t at ≡ x = cc in
        let xs' : tokens_from t (next_at t at) ≡ xs = cc in
        omega (arith, ap (λ (k : Token). length k.payload) x', payload_length w h, (wf_inside w h).head, next_is w h, ih (next_at t at) (wf_next w h) xs')

place_one : {t : Bytes} {c d : Cursor} → Wf t c.at → Wf t d.at → ahead t c ≡ ahead t d → c ≡ d
place_one {t} {c} {d} v w e =
    let n : c.at ≡ d.at = omega (arith, filled t (ahead t d) c.at v e, filled t (ahead t d) d.at w refl) in
    λ i. record { at = n i }

-- a number is one fault's
faults : List Fault
faults =
    Declaration ∷ Declaration ∷ StructName ∷ ChoiceName ∷ LeftCurly ∷ RightCurly ∷ ImportPath ∷ ImportName ∷ Field ∷ FieldType ∷
    ImportBeforeDot ∷ RightSquare ∷ Equals ∷ FieldIndex ∷ NamelessImport ∷ TakenName ∷ DeletedTwice ∷ AfterSchema ∷ LoneComment ∷ []

fault_is : (f : Fault) → get_or faults (number_of f) Declaration ≡ f
unfolding faults
fault_is Declaration = refl
fault_is StructName = refl
fault_is ChoiceName = refl
fault_is LeftCurly = refl
fault_is RightCurly = refl
fault_is ImportPath = refl
fault_is ImportName = refl
fault_is Field = refl
fault_is FieldType = refl
fault_is ImportBeforeDot = refl
fault_is RightSquare = refl
fault_is Equals = refl
fault_is FieldIndex = refl
fault_is NamelessImport = refl
fault_is TakenName = refl
fault_is DeletedTwice = refl
fault_is AfterSchema = refl
fault_is LoneComment = refl

fault_one : (f g : Fault) → number_of f ≡ number_of g → f ≡ g
fault_one f g e = sym (fault_is f) ∙ ap (λ (n : ℕ). get_or faults n Declaration) e ∙ fault_is g

-- what a rule reads, or where and how it fails
module _ {A : Type 0} {t : Bytes} {c d e : Cursor} {rule : List Token → Answer A} where
  read_one : {x y : A} → Reads t c rule (ok x) d → Reads t c rule (ok y) e → (x ≡ y) × (d ≡ e)
  read_one p q = let h = sym p.gives ∙ q.gives in (cc, place_one p.wf q.wf (cc))

  apart : {x : A} {n : ℕ} → Reads t c rule (fail n) d → Reads t c rule (ok x) e → ⊥
  apart p q = fail≢ok (sym p.gives ∙ q.gives)

fail_one : {A : Type 0} {t : Bytes} {c : Cursor} {rule : List Token → Answer A} {f g : Failure} → Fails t c rule f → Fails t c rule g → f ≡ g
fail_one {f = f} {g = g} p q =
    let h = sym p.gives ∙ q.gives in
    let n = fault_one f.fault g.fault (cc) in
    let d = place_one p.wf q.wf (cc) in
    λ i. record { fault = n i; at = d i }

-- an optional place and its token
place_one_if : (t : Bytes) (o p : Option ℕ) → token_there t o ≡ token_there t p → is_some o ≡ is_some p
place_one_if t None None e = refl
place_one_if t (Some x) (Some y) e = refl
place_one_if t None (Some y) e = let z : ◌≡◌ {A = ℕ} 0 1 = cc in absurd (omega arith)
place_one_if t (Some x) None e = let z : ◌≡◌ {A = ℕ} 0 1 = cc in absurd (omega arith)

when_one : {A : Type 0} (b b' : Bool) (x y : A) → when b x ≡ when b' y → b ≡ b'
when_one true true x y e = refl
when_one false false x y e = refl
when_one true false x y e = let z : ◌≡◌ {A = ℕ} 0 1 = cc in absurd (omega arith)
when_one false true x y e = let z : ◌≡◌ {A = ℕ} 0 1 = cc in absurd (omega arith)

-- One token.
pub next_one : {t : Bytes} {c r s : Cursor} → Stepped t c r → Stepped t c s → r ≡ s
next_one p q = λ i. record { at = (p.place ∙ sym q.place) i }

pub skip_one : {t : Bytes} {c : Cursor} {test : ℕ → Bool} {r s : Option ℕ × Cursor} → Skipped t c test r → Skipped t c test s → r ≡ s
skip_one {t} {c} {r = r} {s = s} p q =
    let o = read_one p.read q.read in
    let b = p.there ∙ ap (λ (k : Bool). place_if k c.at) (place_one_if t r.0 s.0 o.0) ∙ sym q.there in
    λ i. (b i, o.1 i)

-- Types: a tree's shape tells how deep it is and whether it is dotted.
abbrev sort_of : TypeTree → ℕ
sort_of (array l y r) = 0
sort_of (plain x) = 1
sort_of (single x) = 1
sort_of (dotted x d y) = 2

one_token : (x : Token) (b : Bool) → sort_of (pick b (single x) (plain x)) ≡ 1
unfolding pick
one_token x true = refl
one_token x false = refl

base_apart : (t : Bytes) (at : ℕ) (b : Bool) {l r : Token} {y : TypeTree} → base_at t at b ≡ array l y r → ⊥
base_apart t at true e = omega (arith, ap sort_of e)
base_apart t at false e = omega (arith, ap sort_of e, one_token (tok_at t at) (eqb (tok_at t at).kind k_identifier))

dotted_one : (t : Bytes) (a a' : ℕ) (b b' : Bool) → base_at t a b ≡ base_at t a' b' → b ≡ b'
dotted_one t a a' true true e = refl
dotted_one t a a' false false e = refl
dotted_one t a a' true false e = absurd (omega (arith, ap sort_of e, one_token (tok_at t a') (eqb (tok_at t a').kind k_identifier)))
dotted_one t a a' false true e = absurd (omega (arith, ap sort_of e, one_token (tok_at t a) (eqb (tok_at t a).kind k_identifier)))

depth_one : (t : Bytes) (close close' a a' : ℕ) (b b' : Bool) (d d' o o' : ℕ) → array_at t close (base_at t a b) d o ≡ array_at t close' (base_at t a' b') d' o'
    → (d ≡ d') × (base_at t a b ≡ base_at t a' b')
depth_one t k k' a a' b b' zero zero o o' e = (refl, e)
depth_one t k k' a a' b b' zero (suc d') o o' e = absurd (base_apart t a b e)
depth_one t k k' a a' b b' (suc d) zero o o' e = absurd (base_apart t a' b' (sym e))
depth_one t k k' a a' b b' (suc d) (suc d') o o' e =
    let i = depth_one t k k' a a' b b' d d' (next_at t o) (next_at t o') (cc) in
    (ap suc i.0, i.1)

shape_one : (t : Bytes) (p q : TypePlaces) → type_at t p ≡ type_at t q → (p.depth ≡ q.depth) × (p.dotted ≡ q.dotted)
shape_one t p q e =
    let d = depth_one t _ _ p.base q.base p.dotted q.dotted p.depth q.depth p.opens q.opens e in
    (d.0, dotted_one t p.base q.base p.dotted q.dotted d.1)

pub type_one : (t : Bytes) (c : Cursor) (rule : List Token → Answer TypeTree) (r s : Result (TypePlaces × Cursor) Failure) → TypeRead t c rule r
    → TypeRead t c rule s → r ≡ s
type_one t c rule (Ok r) (Ok s) a b =
    let o = read_one a.read b.read in
    let h = shape_one t r.0 s.0 o.0 in
    let pq = a.laid ∙ (λ i. type_laid t c.at (h.0 i) (h.1 i)) ∙ sym b.laid in
    λ i. Ok (pq i, o.1 i)
type_one t c rule (Err f) (Err g) a b = ap Err (fail_one a b)
type_one t c rule (Ok r) (Err g) a b = absurd (apart b a.read)
type_one t c rule (Err f) (Ok s) a b = absurd (apart a b.read)

-- Fields.
part_one : (t : Bytes) (at : ℕ) (p q : Option PartPlaces) → part_at t p ≡ part_at t q → part_laid t at p ≡ part_laid t at q
part_one t at None None e = refl
part_one t at None (Some q) e = let z : ◌≡◌ {A = ℕ} 0 1 = cc in absurd (omega arith)
part_one t at (Some p) None e = let z : ◌≡◌ {A = ℕ} 0 1 = cc in absurd (omega arith)
part_one t at (Some p) (Some q) e =
    let z : ◌≡◌ {A = TypePart} (record { colon = tok_at t p.colon; type = type_at t p.ty }) (record { colon = tok_at t q.colon; type = type_at t q.ty }) = cc in
    let h = shape_one t p.ty q.ty (ap (λ (k : TypePart). k.type) z) in
    λ i. Some (record { colon = at; ty = type_laid t (next_at t at) (h.0 i) (h.1 i) })

pub field_one : (t : Bytes) (c : Cursor) (r s : Result (FieldPlaces × Cursor) Failure) → FieldRead t c r → FieldRead t c s → r ≡ s
field_one t c (Ok r) (Ok s) a b =
    let f = r.0 in
    let g = s.0 in
    let o = read_one a.read b.read in
    let k = place_one_if t f.comment g.comment (ap (λ (x : FieldTree). x.comment) o.0) in
    let l = place_one_if t f.rule g.rule (ap (λ (x : FieldTree). x.rule) o.0) in
    let n = ap (λ (x : FieldPlaces). x.name) a.laid ∙ (λ i. skip_at t (l i) (skip_at t (k i) c.at)) ∙ sym (ap (λ (x : FieldPlaces). x.name) b.laid) in
    let p = part_one t (next_at t f.name) f.part g.part (ap (λ (x : FieldTree). x.type) o.0)
    ∙ ap (λ (m : ℕ). part_laid t (next_at t m) g.part) n in
    let fg = a.laid ∙ (λ i. field_laid t c.at (k i) (l i) (p i)) ∙ sym b.laid in
    λ i. Ok (fg i, o.1 i)
field_one t c (Err f) (Err g) a b = ap Err (fail_one a b)
field_one t c (Ok r) (Err g) a b = absurd (apart b a.read)
field_one t c (Err f) (Ok s) a b = absurd (apart a b.read)

-- Heads and imports.
pub head_one : (t : Bytes) (c : Cursor) (r s : Result (HeadPlaces × Cursor) Failure) → HeadRead t c r → HeadRead t c s → r ≡ s
head_one t c (Ok r) (Ok s) a b =
    let o = read_one a.read b.read in
    let k = place_one_if t r.0.comment s.0.comment (ap (λ (x : HeadTree). x.comment) o.0) in
    let fg = a.laid ∙ ap (head_laid t c.at) k ∙ sym b.laid in
    λ i. Ok (fg i, o.1 i)
head_one t c (Err f) (Err g) a b = ap Err (fail_one a b)
head_one t c (Ok r) (Err g) a b = absurd (apart b a.read)
head_one t c (Err f) (Ok s) a b = absurd (apart a b.read)

pub import_one : (t : Bytes) (c : Cursor) (r s : Result (ImportPlaces × Cursor) Failure) → ImportRead t c r → ImportRead t c s → r ≡ s
import_one t c (Ok r) (Ok s) a b =
    let o = read_one a.read b.read in
    let k = when_one (is_some r.0.alias) (is_some s.0.alias) _ _ (ap (λ (x : ImportTree). x.alias) o.0) in
    let fg = a.laid ∙ ap (import_laid t c.at) k ∙ sym b.laid in
    λ i. Ok (fg i, o.1 i)
import_one t c (Err f) (Err g) a b = ap Err (fail_one a b)
import_one t c (Ok r) (Err g) a b = absurd (apart b a.read)
import_one t c (Err f) (Ok s) a b = absurd (apart a b.read)
