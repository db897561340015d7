-- Within the limits a payload that was written is right and short, and gives its parts back.
use mathlib.Core.Path.{◌≡◌, refl, ap, ◌∙◌}
use mathlib.Core.Bool.{Bool, true, false, ◌||◌, and-eq-true_iff}
use mathlib.Core.Option.{Option, none, some}
use mathlib.Core.List.{List, [], ◌∷◌, ◌++◌, append_assoc}
use Prim.Native.Nat.{ℕ, suc, ◌+◌, ◌%◌, ◌≤◌, ◌<◌}
use native.Mathlib.Omega.{arith}
use borrow.Author.Tests.{leb-true, le-leb, eq-eqb, ne_eqb, ltb-true, ltb-false}
use lib.Dec.{leb, ltb, eqb}
use lib.ListN.{length, get_or, drop, length-append}
use lib.Seq.{drop_at}
use Rattle.wire.specs.Bytes.{Bytes}
use Rattle.wire.specs.Le.{le_bytes, u16_at, u64_at}
use Rattle.wire.specs.Pick.{pick}
use Rattle.wire.proofs.Numbers.{le_bytes-length, le_at-le_bytes}
use Rattle.identifier.specs.Byte.{within}
use Rattle.identifier.specs.Name.{is_name}
use Rattle.token.specs.Kind.{is_plain}
use Rattle.token.specs.Payload.{is_path, is_comment, are_paragraphs, paragraphs_in, paragraphs_of, paragraph_bytes}
use Rattle.schema.specs.Ast.{Rule, Field, Import, Declaration}
use Rattle.schema.specs.Limits.{CommentWithin, ImportWithin, OptionWithin, FieldWithin, DeletedWithin, DeclarationWithin}
use Rattle.schema.specs.Encode.{sized, counted, import_payload, import_part, rule_number, field_payload, indices, declaration_payload}
use Rattle.schema.specs.Payload.{is_named, name_of, after_name, is_import, is_counted, is_declaration, is_field, is_deleted, is_plain_type, is_custom}
use Rattle.schema.specs.Decode.{comment_of, optional, rule_of}
use Rattle.token.proofs.Paragraphs.{page_size, page_first, page_after, page_length, paragraphs_found, paragraphs_small}
use Rattle.schema.proofs.Parts.{is_sized_lem, indices_written, indices-length}

pub record Short (name : Bytes) : Type 0 where
  pub low : 1 ≤ length name
  pub high : length name ≤ 128

pub name_short : (name : Bytes) → is_name name ≡ true → Short name
unfolding is_name
name_short name e =
    let w = (and-eq-true_iff (leb 1 (length name)) _).0 ((and-eq-true_iff (within 1 128 (length name)) _).0 e).0 in
    record { low = leb-true 1 (length name) w.0; high = leb-true (length name) 128 w.1 }

pub path_short : (path : Bytes) → is_path path ≡ true → length path ≤ 128
unfolding is_path
path_short path e = leb-true (length path) 128 ((and-eq-true_iff (leb (length path) 128) _).0 e).0

-- a payload that was written is right, and its record's length is a u16
pub record Right (rule : Bytes → Bool) (p : Bytes) : Type 0 where
  pub right : rule p ≡ true
  pub short : 12 + length p < 65536

-- a name and what follows it
module _ (name rest : Bytes) (e : is_name name ≡ true) where
  name_fits : length name < 65536
  name_fits = let s = name_short name e in omega arith

  pub named : is_named (sized name ++ rest) ≡ true
  unfolding is_named
  named = rw (is_sized_lem name rest name_fits, page_first name rest name_fits, e)

  pub name_is : name_of (sized name ++ rest) ≡ name
  name_is = page_first name rest name_fits

  pub after_is : after_name (sized name ++ rest) ≡ rest
  after_is = page_after name rest name_fits

  pub named_length : length (sized name ++ rest) ≤ 130 + length rest
  named_length =
      let s = name_short name e in
      omega (arith, page_length name rest name_fits)

module _ (i : Import) (w : ImportWithin i) where
  pub import_right : Right is_import (import_payload i)
  unfolding is_import
  import_right =
      record {
        right = rw (named i.name i.path w.name, after_is i.name i.path w.name, w.path);
        short = omega (arith, named_length i.name i.path w.name, path_short i.path w.path);
      }

module _ (ps : List Bytes) (w : CommentWithin ps) where
  found : (are_paragraphs 32 (paragraph_bytes ps) ≡ true) × (paragraphs_in 32 (paragraph_bytes ps) ≡ ps)
  found = paragraphs_found 32 ps w.few w.each

  small : length (paragraph_bytes ps) ≤ 32832
  small = omega (arith, paragraphs_small 32 (paragraph_bytes ps) found.0)

  pub comment_is : comment_of (counted ps) ≡ ps
  unfolding paragraphs_of
  comment_is = rw (drop_at (le_bytes 2 (length ps)) (paragraph_bytes ps) 2 (le_bytes-length 2 (length ps))) found.1

  counted-length : length (counted ps) ≡ 2 + length (paragraph_bytes ps)
  counted-length = rw (length-append, le_bytes-length)

  counted_short : length (counted ps) ≤ 32834
  counted_short = let a = small in omega (arith, counted-length)

  counted_is : is_counted (counted ps) ≡ true
  unfolding is_counted paragraphs_of
  counted_is =
      let b = w.few in
      rw (
        le-leb 2 (length (counted ps)) (omega (arith, counted-length)),
        drop_at (le_bytes 2 (length ps)) (paragraph_bytes ps) 2 (le_bytes-length 2 (length ps)),
        found.0,
        le_at-le_bytes 2 (length ps) [] (paragraph_bytes ps) 0 refl (omega arith),
        found.1,
      )
      (eq-eqb (length ps) (length ps) refl)

  -- a name and a comment
  module _ (name : Bytes) (e : is_name name ≡ true) where
    commented_is : is_declaration (sized name ++ counted ps) ≡ true
    unfolding is_declaration
    commented_is = rw (named name (counted ps) e, after_is name (counted ps) e, counted_is)

    commented_short : length (sized name ++ counted ps) ≤ 32964
    commented_short = omega (arith, named_length name (counted ps) e, counted_short)

pub comment_right : (p : Bytes) (ps : List Bytes) → CommentWithin (p ∷ ps) → Right is_comment (paragraph_bytes (p ∷ ps))
unfolding is_comment
comment_right p ps w =
    let a = small (p ∷ ps) w in
    let l : 1 ≤ length (paragraph_bytes (p ∷ ps)) = unfold paragraph_bytes le_bytes in omega arith in
    record { right = rw (le-leb 1 (length (paragraph_bytes (p ∷ ps))) l, (found (p ∷ ps) w).0); short = omega arith }

pub declaration_right : (d : Declaration) → DeclarationWithin d → Right is_declaration (declaration_payload d)
declaration_right d w =
    record {
      right = commented_is d.comment w.comment d.name w.name;
      short = omega (arith, commented_short d.comment w.comment d.name w.name);
    }

module _ (f : Field) (w : FieldWithin f) where
  abbrev body : Bytes
  body = sized f.name ++ counted f.comment

  front : field_payload f ≡ rule_number f.rule ∷ le_bytes 8 f.index ++ body
  front = append_assoc (rule_number f.rule ∷ le_bytes 8 f.index) (sized f.name) (counted f.comment)

  pub body_is : drop 9 (field_payload f) ≡ body
  body_is = rw front (drop_at (rule_number f.rule ∷ le_bytes 8 f.index) body 9 (ap suc (le_bytes-length 8 f.index)))

  pub index_is : u64_at (field_payload f) 1 ≡ f.index
  index_is = rw front (le_at-le_bytes 8 f.index (rule_number f.rule ∷ []) body 1 refl w.index)

  pub rule_is : rule_of (get_or (field_payload f) 0 0) ≡ f.rule
  rule_is = go f.rule
    where
      go : (r : Rule) → rule_of (rule_number r) ≡ r
      go Rule.required = unfold pick in refl
      go Rule.asymmetric = unfold pick in refl
      go Rule.optional = unfold pick in refl

  field_length : length (field_payload f) ≡ 9 + length body
  field_length = ap length front ∙ rw (length-append (le_bytes 8 f.index) body, le_bytes-length) (omega arith)

  pub field_right : Right is_field (field_payload f)
  unfolding is_field
  field_right =
      let s = commented_short f.comment w.comment f.name w.name in
      let l = field_length in
      record {
        right =
            rw (le-leb 9 (length (field_payload f)) (omega arith), body_is, rule_small f.rule, commented_is f.comment w.comment f.name w.name);
        short = omega arith;
      }
    where
      rule_small : (r : Rule) → leb (rule_number r) 2 ≡ true
      rule_small Rule.required = refl
      rule_small Rule.asymmetric = refl
      rule_small Rule.optional = refl

pub deleted_right : (n : ℕ) (ns : List ℕ) → DeletedWithin (n ∷ ns) → Right is_deleted (indices (n ∷ ns))
unfolding is_deleted
deleted_right n ns w =
    let all = indices (n ∷ ns) in
    let l = indices-length (n ∷ ns) in
    let h = w.few in
    record {
      right = rw (le-leb 1 (length all) (omega arith), eq-eqb (length all % 8) 0 (omega arith), indices_written (n ∷ ns) w.each, w.ascending);
      short = omega arith;
    }

pub plain_is : (kind : ℕ) → is_plain kind ≡ true → u16_at (le_bytes 2 kind) 0 ≡ kind
unfolding le_bytes
plain_is kind e = le_at-le_bytes 2 kind [] [] 0 refl (go (ltb kind 65536) refl)
  where
    go : (b : Bool) → ltb kind 65536 ≡ b → kind < 65536
    go true h = ltb-true kind 65536 h
    go false h =
        let l = ltb-false kind 65536 h in
        let z : ◌≡◌ {A = Bool} false true =
        rw (
          ne_eqb kind 3 (λ q. omega arith),
          ne_eqb kind 4 (λ q. omega arith),
          ne_eqb kind 11 (λ q. omega arith),
          ne_eqb kind 21 (λ q. omega arith),
          ne_eqb kind 22 (λ q. omega arith),
          ne_eqb kind 24 (λ q. omega arith),
          ne_eqb kind 25 (λ q. omega arith),
        ) at e in
        let y : ◌≡◌ {A = ℕ} 0 1 = cc in
        absurd (omega arith)

pub plain_right : (kind : ℕ) → is_plain kind ≡ true → Right is_plain_type (le_bytes 2 kind)
unfolding is_plain_type
plain_right kind e =
    let l = le_bytes-length 2 kind in
    record { right = rw (eq-eqb (length (le_bytes 2 kind)) 2 l, plain_is kind e, e); short = omega arith }

module _ (import : Option Bytes) (name : Bytes) (i : OptionWithin import) (e : is_name name ≡ true) where
  import_short : (import : Option Bytes) → OptionWithin import → length (import_part import) ≤ 128
  import_short none i = omega arith
  import_short (some name) i = (name_short name i).high

  import_fits : length (import_part import) < 65536
  import_fits = let s = import_short import i in omega arith

  pub import_part_lem : optional (name_of (sized (import_part import) ++ name)) ≡ import
  import_part_lem = rw (page_first (import_part import) name import_fits) (go import i)
    where
      go : (import : Option Bytes) → OptionWithin import → optional (import_part import) ≡ import
      go none i = refl
      go (some []) i = absurd (let s = name_short [] i in omega arith)
      go (some (b ∷ bs)) i = refl

  pub custom_name : after_name (sized (import_part import) ++ name) ≡ name
  custom_name = page_after (import_part import) name import_fits

  pub custom_right : Right is_custom (sized (import_part import) ++ name)
  unfolding is_custom
  custom_right =
      let part = import_part import in
      let s = import_short import i in
      let t = name_short name e in
      record {
        right = rw (is_sized_lem part name import_fits, page_size part name import_fits, page_first part name import_fits, custom_name, go import i, e);
        short = omega (arith, page_length part name import_fits);
      }
    where
      go : (import : Option Bytes) → OptionWithin import → (eqb (length (import_part import)) 0 || is_name (import_part import)) ≡ true
      go none i = refl
      go (some name) i = let s = name_short name i in rw (ne_eqb (length name) 0 (λ q. omega arith), i)
