-- A payload that is right is written back as it was read, and its parts are within the limits.
use mathlib.Core.Path.{◌≡◌, refl, ap, ◌∙◌}
use mathlib.Core.Bool.{true, ◌||◌, and-eq-true_iff}
use mathlib.Core.List.{List, [], ◌∷◌, ◌++◌, append_assoc}
use Prim.Native.Nat.{ℕ, zero, suc, ◌+◌, ◌/◌, ◌%◌, ◌≤◌, ◌<◌}
use native.Mathlib.Omega.{arith}
use borrow.Author.Tests.{leb-true, eqb-true, ne_eqb}
use lib.Dec.{leb, eqb}
use lib.ListN.{length, get_or, take, drop, take-append-drop}
use lib.Seq.{take_all}
use Rattle.wire.specs.Bytes.{Bytes}
use Rattle.wire.specs.Le.{le_bytes, u16_at, u64_at}
use Rattle.wire.specs.Pick.{pick}
use Rattle.wire.proofs.Numbers.{AllBytes}
use Rattle.identifier.specs.Name.{is_name}
use Rattle.token.specs.Kind.{is_plain}
use Rattle.token.specs.Payload.{is_path, is_comment, are_paragraphs, paragraphs_of, paragraph_bytes}
use Rattle.schema.specs.Limits.{CommentWithin, OptionWithin, DeletedWithin}
use Rattle.schema.specs.Encode.{sized, counted, import_part, rule_number, indices}
use Rattle.schema.specs.Payload.{is_sized, is_named, name_of, after_name, is_import, is_counted}
use Rattle.schema.specs.Payload.{is_declaration, is_field, indices_of, is_deleted, is_plain_type, is_custom}
use Rattle.schema.specs.Decode.{comment_of, optional, rule_of}
use Rattle.token.proofs.Paragraphs.{all_drop, paragraphs_good, paragraphs_again}
use Rattle.token.proofs.Encode.{bytes_at}
use Rattle.schema.proofs.Parts.{le_at_small, bytes_after, sized_facts, name_back, IndicesRead, indices_read}

module _ (p : Bytes) (a : AllBytes p) where
  -- a name and what follows it
  pub record NamedRead : Type 0 where
    pub name : is_name (name_of p) ≡ true
    pub back : sized (name_of p) ++ after_name p ≡ p

  pub named_read : is_named p ≡ true → NamedRead
  unfolding is_named
  named_read e =
      let b = (and-eq-true_iff (is_sized p) _).0 e in
      record { name = b.1; back = name_back p (sized_facts p b.0) a }

  pub record CountedRead : Type 0 where
    pub within : CommentWithin (comment_of p)
    pub back : counted (comment_of p) ≡ p

  pub counted_read : is_counted p ≡ true → CountedRead
  unfolding is_counted paragraphs_of
  counted_read e =
      let b = (and-eq-true_iff (leb 2 (length p)) _).0 e in
      let c = (and-eq-true_iff (are_paragraphs 32 (drop 2 p)) _).0 b.1 in
      let g = paragraphs_good 32 (drop 2 p) c.0 in
      let n = eqb-true (u16_at p 0) (length (paragraphs_of (drop 2 p))) c.1 in
      record {
        within = record { few = g.1; each = g.0 };
        back = rw (← n, bytes_at 2 0 p a (leb-true 2 (length p) b.0), paragraphs_again 32 (drop 2 p) (all_drop 2 p a) c.0) (take-append-drop 2 p);
      }

module _ (p : Bytes) (a : AllBytes p) where
  pub record ImportRead : Type 0 where
    pub name : is_name (name_of p) ≡ true
    pub path : is_path (after_name p) ≡ true
    pub back : sized (name_of p) ++ after_name p ≡ p

  pub import_read : is_import p ≡ true → ImportRead
  unfolding is_import
  import_read e =
      let b = (and-eq-true_iff (is_named p) _).0 e in
      let n = named_read p a b.0 in
      record { name = n.name; path = b.1; back = n.back }

  pub record DeclarationRead : Type 0 where
    pub name : is_name (name_of p) ≡ true
    pub comment : CommentWithin (comment_of (after_name p))
    pub back : sized (name_of p) ++ counted (comment_of (after_name p)) ≡ p

  pub declaration_read : is_declaration p ≡ true → DeclarationRead
  unfolding is_declaration
  declaration_read e =
      let b = (and-eq-true_iff (is_named p) _).0 e in
      let n = named_read p a b.0 in
      let c = counted_read (after_name p) (bytes_after p a) b.1 in
      record { name = n.name; comment = c.within; back = rw c.back n.back }

rule_back : (n : ℕ) → n ≤ 2 → rule_number (rule_of n) ≡ n
unfolding pick
rule_back zero h = refl
rule_back (suc zero) h = refl
rule_back (suc (suc zero)) h = refl
rule_back (suc (suc (suc n))) h = absurd (omega arith)

pub record FieldRead (p : Bytes) : Type 0 where
  pub name : is_name (name_of (drop 9 p)) ≡ true
  pub comment : CommentWithin (comment_of (after_name (drop 9 p)))
  pub index : u64_at p 1 < 18446744073709551616
  pub back : rule_number (rule_of (get_or p 0 0)) ∷ le_bytes 8 (u64_at p 1) ++ sized (name_of (drop 9 p)) ++ counted (comment_of (after_name (drop 9 p))) ≡ p

pub field_read : (p : Bytes) → AllBytes p → is_field p ≡ true → FieldRead p
unfolding is_field
field_read [] a e = let z : ◌≡◌ {A = ℕ} 0 1 = cc in absurd (omega arith)
field_read (b ∷ q) a e =
    let p = b ∷ q in
    let c = (and-eq-true_iff (leb 9 (length p)) _).0 e in
    let r = (and-eq-true_iff (leb b 2) _).0 c.1 in
    let l = leb-true 9 (length p) c.0 in
    let d = declaration_read (drop 9 p) (all_drop 9 p a) r.1 in
    record {
      name = d.name;
      comment = d.comment;
      index = le_at_small 8 p 1 a l;
      back =
          rw (
            rule_back b (leb-true b 2 r.0),
            bytes_at 8 1 p a l,
            append_assoc (take 8 q) (sized (name_of (drop 8 q))) (counted (comment_of (after_name (drop 8 q)))),
            d.back,
          )
          (ap (λ (bs : Bytes). b ∷ bs) (take-append-drop 8 q));
    }

-- a list of at least one
pub record Some (A : Type 0) (xs : List A) : Type 0 where
  pub first : A
  pub later : List A
  pub are : xs ≡ first ∷ later

some_of : {A : Type 0} (xs : List A) → 0 < length xs → Some A xs
some_of [] h = absurd (omega arith)
some_of (x ∷ xs) h = record { first = x; later = xs; are = refl }

pub record DeletedRead (p : Bytes) : Type 0 where
  pub some : Some ℕ (indices_of p)
  pub within : DeletedWithin (indices_of p)
  pub back : indices (indices_of p) ≡ p

pub deleted_read : (p : Bytes) → AllBytes p → 12 + length p < 65536 → is_deleted p ≡ true → DeletedRead p
unfolding is_deleted indices_of
deleted_read p a h e =
    let b = (and-eq-true_iff (leb 1 (length p)) _).0 e in
    let c = (and-eq-true_iff (eqb (length p % 8) 0) _).0 b.1 in
    let l = leb-true 1 (length p) b.0 in
    let m = eqb-true (length p % 8) 0 c.0 in
    let r : IndicesRead (length p / 8) p = indices_read (length p / 8) p (omega arith) a in
    let n = r.count in
    record {
      some = some_of (indices_of p) (omega arith);
      within = record { each = r.each; ascending = c.1; few = omega arith };
      back = r.back;
    }

pub record CommentRead (p : Bytes) : Type 0 where
  pub some : Some Bytes (paragraphs_of p)
  pub within : CommentWithin (paragraphs_of p)
  pub back : paragraph_bytes (paragraphs_of p) ≡ p

pub comment_read : (p : Bytes) → AllBytes p → is_comment p ≡ true → CommentRead p
unfolding is_comment paragraphs_of
comment_read [] a e = let z : ◌≡◌ {A = ℕ} 0 1 = cc in absurd (omega arith)
comment_read (b ∷ q) a e =
    let are = ((and-eq-true_iff (leb 1 (length (b ∷ q))) _).0 e).1 in
    let g = paragraphs_good 32 (b ∷ q) are in
    record { some = some_of (paragraphs_of (b ∷ q)) (omega arith); within = record { few = g.1; each = g.0 }; back = paragraphs_again 32 (b ∷ q) a are }

pub record PlainRead (p : Bytes) : Type 0 where
  pub kind : is_plain (u16_at p 0) ≡ true
  pub back : le_bytes 2 (u16_at p 0) ≡ p

pub plain_read : (p : Bytes) → AllBytes p → is_plain_type p ≡ true → PlainRead p
unfolding is_plain_type
plain_read p a e =
    let b = (and-eq-true_iff (eqb (length p) 2) _).0 e in
    let l = eqb-true (length p) 2 b.0 in
    record { kind = b.1; back = bytes_at 2 0 p a (omega arith) ∙ take_all 2 p (omega arith) }

pub record CustomRead (p : Bytes) : Type 0 where
  pub import : OptionWithin (optional (name_of p))
  pub name : is_name (after_name p) ≡ true
  pub back : sized (import_part (optional (name_of p))) ++ after_name p ≡ p

pub custom_read : (p : Bytes) → AllBytes p → is_custom p ≡ true → CustomRead p
unfolding is_custom
custom_read p a e =
    let b = (and-eq-true_iff (is_sized p) _).0 e in
    let c = (and-eq-true_iff (eqb (u16_at p 0) 0 || is_name (name_of p)) _).0 b.1 in
    let s = sized_facts p b.0 in
    record {
      import = go (name_of p) (rw (← s.size) at c.0);
      name = c.1;
      back = rw (same (name_of p)) (name_back p s a);
    }
  where
    same : (n : Bytes) → import_part (optional n) ≡ n
    same [] = refl
    same (b ∷ n) = refl

    go : (n : Bytes) → (eqb (length n) 0 || is_name n) ≡ true → OptionWithin (optional n)
    go [] h = tt
    go (b ∷ n) h = rw (ne_eqb (length (b ∷ n)) 0 (λ q. omega arith)) at h
