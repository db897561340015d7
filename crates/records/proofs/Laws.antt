-- Records in parts: a head, then the payload; what the kinds of tokens show of their payloads; brackets, one pair after the other.
use Prim.Native.Nat.{ℕ, zero, suc, ◌+◌, ◌*◌, ◌-◌, ◌≤◌, ◌<◌}
use mathlib.Core.Path.{◌≡◌, refl, sym, ap, ◌∙◌}
use mathlib.Core.Bool.{true, false, ◌&&◌, and-eq-true_iff}
use mathlib.Core.Option as maybe
use mathlib.Core.Option.{none, some}
use mathlib.Core.List.{List, [], ◌∷◌, ◌++◌, append_assoc, append-nil}
use native.Mathlib.Omega.{arith}
use native.Mathlib.Numerals.{sub-one}
use lib.Dec.{eqb, leb}
use lib.ListN.{length, drop, length-append}
use borrow.Author.Tests.{leb-true, le-leb, eq-eqb}
use Rattle.std.specs.Prelude.{Option, None, Some, IfSome}
use Rattle.wire.specs.Bytes.{Bytes}
use Rattle.wire.specs.Le.{le_bytes}
use Rattle.wire.specs.Pick.{pick}
use Rattle.wire.specs.Puts.{Puts}
use Rattle.wire.specs.Record.{head_bytes, record_bytes}
use Rattle.wire.specs.declared.Writer.{Writer}
use Rattle.wire.proofs.Puts.{then, parts, Rest, rest_step}
use Rattle.wire.proofs.Numbers.{AllBytes, le_bytes-length}
use Rattle.token.specs.Token.{Token}
use Rattle.token.specs.Kind.{k_comment, k_identifier}
use Rattle.token.specs.Payload.{is_identifier, is_comment, is_payload, are_paragraphs, paragraphs_of, paragraph_bytes}
use Rattle.token.specs.Table.{size_of, token_of}
use Rattle.token.specs.Places.{tok_at, next_at}
use Rattle.token.proofs.Paragraphs.{all_take, all_drop, paragraphs_again, paragraphs_small}
use Rattle.token.proofs.Walk.{wf_good}
use Rattle.schema.specs.Kind.{s_comment, s_array, s_plain, s_custom}
use Rattle.schema.specs.Encode.{sized, counted, encode_comment, encode_type}
use Rattle.grammar.specs.Tree.{TypeTree, Is, IfAny, WfType}
use Rattle.grammar.specs.Place.{span}
use Rattle.grammar.specs.Meaning.{comment_of, type_of}
use Rattle.parser.specs.Trees.{token_there, base_at, array_at, type_at}
use Rattle.parser.specs.Steps.{Stands, Brackets}
use Rattle.parser.specs.declared.TypePlaces.{TypePlaces}
use Rattle.records.specs.Pieces.{source_range}
use Rattle.records.specs.declared.SourceRange.{SourceRange}
use Rattle.records.specs.Here.{CommentHere, Whole, Paragraphs}

-- a record is its head, then its payload
pub put_record : (kind start end : ℕ) {w : Writer} {n : ℕ} {w₁ : Writer} {payload : Bytes} {w₂ : Writer} → Puts w (head_bytes (12 + n) kind start end) w₁
    → Puts w₁ payload w₂
    → n ≡ length payload
    → Puts w (record_bytes kind start end payload) w₂
unfolding record_bytes
put_record kind start end p q e = parts p q (rw e)

-- the bytes of a slice
pub all_payload : (t : Bytes) (at : ℕ) → AllBytes t → AllBytes (tok_at t at).payload
unfolding token_of
all_payload t at h = all_take (size_of (drop at t) - 12) (drop 12 (drop at t)) (all_drop 12 (drop at t) (all_drop at t h))

-- Payloads.
module _ {t : Bytes} {at : ℕ} (s : Stands t at) where
  pub name_short : (tok_at t at).kind ≡ k_identifier → length (tok_at t at).payload ≤ 128
  unfolding is_payload is_identifier pick
  name_short e =
      let n = length (tok_at t at).payload in
      let p = (and-eq-true_iff (leb 1 n && leb n 128) _).0 (rw e at (wf_good s.0 s.1).sound.payload) in
      leb-true n 128 ((and-eq-true_iff (leb 1 n) (leb n 128)).0 p.0).1

  comment_are : (tok_at t at).kind ≡ k_comment → are_paragraphs 32 (tok_at t at).payload ≡ true
  unfolding is_payload is_comment pick
  comment_are e = ((and-eq-true_iff (leb 1 (length (tok_at t at).payload)) _).0 (rw e at (wf_good s.0 s.1).sound.payload)).1

  pub comment_there : (tok_at t at).kind ≡ k_comment → AllBytes t → Paragraphs (some (tok_at t at)) (tok_at t at).payload
  unfolding paragraphs_of
  comment_there e h =
      let a = comment_are e in
      record { whole = record { are = a; again = paragraphs_again 32 _ (all_payload t at h) a }; these = refl }

-- a comment that may be absent
pub comment_here : (t : Bytes) (comment : Option ℕ) → IfSome comment (Stands t) → IfAny (Is k_comment) (token_there t comment) → CommentHere t comment
comment_here t None s w = tt
comment_here t (Some at) s w = (s, w)

pub comment_absent : Paragraphs none []
unfolding paragraphs_of are_paragraphs paragraph_bytes
comment_absent = record { whole = record { are = refl; again = refl }; these = refl }

pub whole_short : {p : Bytes} → Whole p → length p ≤ 32832
whole_short w = omega (arith, paragraphs_small 32 _ w.are)

pub whole_comment : {p : Bytes} → Whole p → (length p ≡ 0 → ⊥) → is_comment p ≡ true
unfolding is_comment
whole_comment {p} w n = rw (le-leb 1 (length p) (omega (arith, n)), w.are)

pub counted_none : (p : Bytes) → length p ≡ 0 → le_bytes 2 0 ≡ counted (paragraphs_of p)
unfolding paragraphs_of paragraph_bytes
counted_none [] z = sym (append-nil (le_bytes 2 0))
counted_none (b ∷ p) z = absurd (omega arith)

-- what the records of a declaration and of a field end with
pub described_length : (name : Bytes) {p : Bytes} → Whole p → length (sized name ++ counted (paragraphs_of p)) ≡ 4 + length name + length p
described_length name w = simp (length-append, le_bytes-length) (rw w.again (omega arith))

pub put_field_payload : (rule n : ℕ) (name p : Bytes) {w w₁ w₂ w₃ : Writer} → Puts w (rule ∷ []) w₁ → Puts w₁ (le_bytes 8 n) w₂
    → Puts w₂ (sized name ++ counted (paragraphs_of p)) w₃
    → Puts w (rule ∷ le_bytes 8 n ++ sized name ++ counted (paragraphs_of p)) w₃
put_field_payload rule n name p a b c = parts a (then b c) (ap (rule ∷◌) (sym (append_assoc (le_bytes 8 n) (sized name) (counted (paragraphs_of p)))))

pub field_length : (rule n : ℕ) (name : Bytes) {p : Bytes} → Whole p
    → length (rule ∷ le_bytes 8 n ++ sized name ++ counted (paragraphs_of p)) ≡ 13 + length name + length p
field_length rule n name {p} w =
    rw (
      append_assoc (le_bytes 8 n) (sized name) (counted (paragraphs_of p)),
      length-append (le_bytes 8 n) (sized name ++ counted (paragraphs_of p)),
      le_bytes-length 8 n,
      described_length name w,
    )
    (omega arith)

-- the schema's comment, by its bytes
module _ {comment : maybe.Option Token} {p : Bytes} (w : Paragraphs comment p) where
  pub comment_bytes : paragraph_bytes (comment_of comment) ≡ p
  comment_bytes = rw w.these at w.whole.again

  pub no_opening : length p ≡ 0 → encode_comment (comment_of comment) ≡ []
  unfolding paragraph_bytes
  no_opening z = go (comment_of comment) (ap length comment_bytes ∙ z)
    where
      go : (ps : List Bytes) → length (paragraph_bytes ps) ≡ 0 → encode_comment ps ≡ []
      go [] z = refl
      go (q ∷ ps) z = absurd (omega (
        arith,
        z,
        length-append (le_bytes 2 (length q)) q,
        length-append (le_bytes 2 (length q) ++ q) (paragraph_bytes ps),
        le_bytes-length 2 (length q),
      ))

  pub opening : (length p ≡ 0 → ⊥) → record_bytes s_comment 0 0 p ≡ encode_comment (comment_of comment)
  unfolding paragraph_bytes
  opening n = rw (← comment_bytes) (go (comment_of comment) λ z. n (sym (ap length comment_bytes) ∙ z))
    where
      go : (ps : List Bytes) → (length (paragraph_bytes ps) ≡ 0 → ⊥) → record_bytes s_comment 0 0 (paragraph_bytes ps) ≡ encode_comment ps
      go [] n = absurd (n refl)
      go (q ∷ ps) n = refl

-- Types.
module _ (t : Bytes) (at : ℕ) where
  pub single_is : (tok_at t at).kind ≡ k_identifier
      → encode_type (type_of (base_at t at false)) ≡ record_bytes s_custom (tok_at t at).start (tok_at t at).end (sized [] ++ (tok_at t at).payload)
  unfolding pick
  single_is e = rw (eq-eqb _ _ e)

  pub plain_is : eqb (tok_at t at).kind k_identifier ≡ false
      → encode_type (type_of (base_at t at false)) ≡ record_bytes s_plain (tok_at t at).start (tok_at t at).end (le_bytes 2 (tok_at t at).kind)
  unfolding pick
  plain_is e = rw e

module _ (t : Bytes) (close : ℕ) (base : TypeTree) where
  pub wf_base : (left opens : ℕ) → WfType (array_at t close base left opens) → WfType base
  wf_base zero opens w = w
  wf_base (suc d) opens w = wf_base d (next_at t opens) w.1

  pub outermost : (left opens : ℕ) → 0 < left → Brackets t close left opens
      → Stands t opens × Stands t (close + 12 * (left - 1)) × Brackets t close (left - 1) (next_at t opens)
  outermost zero opens h b = absurd (omega arith)
  outermost (suc d) opens h b = rw sub-one b

  array_is : (left opens : ℕ) → 0 < left → encode_type (type_of (array_at t close base left opens))
      ≡ head_bytes 12 s_array (tok_at t opens).start (tok_at t (close + 12 * (left - 1))).end
      ++ encode_type (type_of (array_at t close base (left - 1) (next_at t opens)))
  unfolding record_bytes
  array_is zero opens h = absurd (omega arith)
  array_is (suc d) opens h = rw (sub-one, append-nil)

-- so many brackets are still to be written, from `opens` on, and then the base
pub record Nesting (t : Bytes) (p : TypePlaces) (w₀ w : Writer) (left opens : ℕ) : Type 0 where
  pub rest : Rest w (encode_type (type_of (array_at t p.close (base_at t p.base p.dotted) left opens))) w₀ (encode_type (type_of (type_at t p)))
  pub brackets : Brackets t p.close left opens

pub nested : {t : Bytes} {p : TypePlaces} {w₀ w : Writer} {left opens : ℕ} {range : SourceRange} {w' : Writer} → Nesting t p w₀ w left opens → 0 < left
    → range ≡ source_range (span (tok_at t opens) (tok_at t (p.close + 12 * (left - 1))))
    → Puts w (head_bytes 12 s_array range.start range.end) w'
    → Nesting t p w₀ w' (left - 1) (next_at t opens)
nested {t} {p} {left = left} {opens = opens} n h e q =
    let base = base_at t p.base p.dotted in
    record {
      rest = rest_step q n.rest (rw e (array_is t p.close base left opens h));
      brackets = (outermost t p.close base left opens h n.brackets).2;
    }
