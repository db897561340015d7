-- What the rules of payloads say of the parts that are written.
use Prim.Native.Nat.{ℕ, zero, suc, ◌/◌, ◌%◌, ◌≤◌, ◌<◌}
use mathlib.Core.Path.{◌≡◌, refl}
use mathlib.Core.Bool.{Bool, true, false, ◌||◌, and-eq-true_iff}
use mathlib.Core.List.{[], ◌∷◌}
use native.Mathlib.Omega.{arith}
use borrow.Author.Tests.{leb-true, eqb-true}
use lib.Dec.{leb, eqb}
use lib.ListN.{length, get_or, drop, length-take}
use Rattle.wire.specs.Bytes.{Bytes}
use Rattle.wire.specs.Le.{u16_at}
use Rattle.identifier.specs.Name.{is_name}
use Rattle.identifier.proofs.Good.{name_short}
use Rattle.token.specs.Kind.{is_plain}
use Rattle.token.specs.Payload.{are_paragraphs, is_comment, paragraph_of, paragraphs_of}
use Rattle.schema.specs.Payload.{is_sized, is_named, name_of, after_name, is_import, is_counted, is_declaration, is_field}
use Rattle.schema.specs.Payload.{is_deleted, indices_in, indices_of, is_plain_type, is_custom}
use Rattle.text.specs.Text.{is_empty}

-- a comment has a paragraph
pub record CommentParts (p : Bytes) : Type 0 where
  pub paragraphs : are_paragraphs 32 p ≡ true
  pub some : is_empty (paragraphs_of p) ≡ false

pub comment_parts : (p : Bytes) → is_comment p ≡ true → CommentParts p
unfolding is_comment paragraphs_of
comment_parts [] e = let z : ◌≡◌ {A = ℕ} 0 1 = cc in absurd (omega arith)
comment_parts (b ∷ p) e = record { paragraphs = ((and-eq-true_iff (leb 1 (length (b ∷ p))) _).0 e).1; some = refl }

-- a name and a comment
pub record HeadParts (q : Bytes) : Type 0 where
  pub sized : is_sized q ≡ true
  pub short : length (name_of q) ≤ 128
  pub room : 2 ≤ length (after_name q)
  pub paragraphs : are_paragraphs 32 (drop 2 (after_name q)) ≡ true

pub head_parts : {q : Bytes} → is_declaration q ≡ true → HeadParts q
unfolding is_declaration is_named is_counted
head_parts {q} e =
    let f = (and-eq-true_iff (is_named q) _).0 e in
    let g = (and-eq-true_iff (is_sized q) _).0 f.0 in
    let h = (and-eq-true_iff (leb 2 (length (after_name q))) _).0 f.1 in
    record {
      sized = g.0;
      short = name_short (name_of q) g.1;
      room = leb-true 2 (length (after_name q)) h.0;
      paragraphs = ((and-eq-true_iff (are_paragraphs 32 (drop 2 (after_name q))) _).0 h.1).0;
    }

-- at least one index
pub record DeletedParts (p : Bytes) : Type 0 where
  pub some : 1 ≤ length p
  pub whole : length p % 8 ≡ 0

pub deleted_parts : {p : Bytes} → is_deleted p ≡ true → DeletedParts p
unfolding is_deleted
deleted_parts {p} e =
    let f = (and-eq-true_iff (leb 1 (length p)) _).0 e in
    record { some = leb-true 1 (length p) f.0; whole = eqb-true (length p % 8) 0 ((and-eq-true_iff (eqb (length p % 8) 0) _).0 f.1).0 }

pub indices_some : (p : Bytes) → 1 ≤ length p → length p % 8 ≡ 0 → is_empty (indices_of p) ≡ false
unfolding indices_of
indices_some p h e = go (length p / 8) (omega arith)
  where
    go : (n : ℕ) → 0 < n → is_empty (indices_in n p) ≡ false
    go zero k = absurd (omega arith)
    go (suc n) k = refl

pub some_index : (p : Bytes) → is_deleted p ≡ true → is_empty (indices_of p) ≡ false
some_index p e = let d = deleted_parts e in indices_some p d.some d.whole

-- a rule, an index, then what a declaration has
pub record FieldParts (p : Bytes) : Type 0 where
  pub room : 9 ≤ length p
  pub named : is_declaration (drop 9 p) ≡ true

pub field_parts : {p : Bytes} → is_field p ≡ true → FieldParts p
unfolding is_field
field_parts {p} e =
    let f = (and-eq-true_iff (leb 9 (length p)) _).0 e in
    record { room = leb-true 9 (length p) f.0; named = ((and-eq-true_iff (leb (get_or p 0 0) 2) _).0 f.1).1 }

-- a name and a path
pub record ImportParts (p : Bytes) : Type 0 where
  pub sized : is_sized p ≡ true
  pub short : length (name_of p) ≤ 128

pub import_parts : {p : Bytes} → is_import p ≡ true → ImportParts p
unfolding is_import is_named
import_parts {p} e =
    let f = (and-eq-true_iff (is_sized p) _).0 ((and-eq-true_iff (is_named p) _).0 e).0 in
    record { sized = f.0; short = name_short (name_of p) f.1 }

pub import_sized : (p : Bytes) → is_import p ≡ true → is_sized p ≡ true
import_sized p e = (import_parts e).sized

pub plain_size : (p : Bytes) → is_plain_type p ≡ true → length p ≡ 2
unfolding is_plain_type
plain_size p e = eqb-true (length p) 2 ((and-eq-true_iff (eqb (length p) 2) _).0 e).0

pub plain_number : (p : Bytes) → is_plain_type p ≡ true → is_plain (u16_at p 0) ≡ true
unfolding is_plain_type
plain_number p e = ((and-eq-true_iff (eqb (length p) 2) _).0 e).1

-- a custom type's import has a name of zero bytes where it has none
pub record CustomParts (p : Bytes) : Type 0 where
  pub sized : is_sized p ≡ true
  pub import : length (name_of p) ≤ 128
  pub name : length (after_name p) ≤ 128

pub custom_parts : {p : Bytes} → is_custom p ≡ true → CustomParts p
unfolding is_custom paragraph_of
custom_parts {p} e =
    let f = (and-eq-true_iff (is_sized p) _).0 e in
    let g = (and-eq-true_iff (eqb (u16_at p 0) 0 || is_name (name_of p)) _).0 f.1 in
    record { sized = f.0; import = short (eqb (u16_at p 0) 0) refl g.0; name = name_short (after_name p) g.1 }
  where
    short : (b : Bool) → eqb (u16_at p 0) 0 ≡ b → (b || is_name (name_of p)) ≡ true → length (name_of p) ≤ 128
    short true q h = omega (arith, length-take (u16_at p 0) (drop 2 p), eqb-true (u16_at p 0) 0 q)
    short false q h = name_short (name_of p) h

pub custom_sized : (p : Bytes) → is_custom p ≡ true → is_sized p ≡ true
custom_sized p e = (custom_parts e).sized
