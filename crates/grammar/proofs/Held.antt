-- What the tokens of a table fulfil, one by one, and what each kind of token gives by it.
use Prim.Native.Nat.{ℕ, ◌+◌, ◌≤◌, ◌<◌}
use mathlib.Core.Path.{◌≡◌, refl, subst}
use mathlib.Core.Bool.{true, ◌&&◌, and-eq-true_iff}
use mathlib.Core.List.{List, [], ◌∷◌, ◌++◌}
use native.Mathlib.Omega.{arith}
use lib.Dec.{ltb, leb}
use lib.ListN.{length, get_or}
use borrow.Author.Tests.{eqb-true, ltb-true, lt-ltb}
use Rattle.wire.specs.Bytes.{Bytes}
use Rattle.wire.specs.Le.{le_number}
use Rattle.wire.specs.Pick.{pick}
use Rattle.wire.specs.Record.{head_bytes, record_bytes}
use Rattle.wire.proofs.Numbers.{AllBytes}
use Rattle.identifier.specs.Byte.{within, is_printable, class_of}
use Rattle.identifier.specs.Name.{all, is_name}
use Rattle.identifier.proofs.Table.{class_printable, class_name}
use Rattle.token.specs.Token.{Token, end_of}
use Rattle.token.specs.Kind.{k_identifier, k_path, k_integer, k_comment}
use Rattle.token.specs.Payload.{is_name_start, is_name_byte, is_identifier, is_path, is_integer, is_comment, is_payload, are_paragraphs, paragraphs_of, paragraph_bytes}
use Rattle.token.specs.Table.{tokens, decode, encode_tokens}
use Rattle.token.specs.Fit.{Fit}
use Rattle.token.specs.Fit.Fit.{none, more}
use Rattle.token.proofs.Walk.{fit_length, squares_of, fit_squares}
use Rattle.token.proofs.Paragraphs.{paragraphs_good, comment_again}
use Rattle.token.proofs.Encode.{le_small, decode_holds}
use Rattle.schema.specs.Limits.{CommentWithin}
use Rattle.grammar.specs.Tree.{Is}

-- a kind, a payload by its rule, and u32s
pub record Sane (t : Token) : Type 0 where
  pub kind : t.kind ≤ 25
  pub payload : is_payload t.kind t.payload ≡ true
  pub bytes : AllBytes t.payload
  pub start : t.start < 4294967296
  pub end : t.end < 4294967296

-- at most 4,096 tokens, and 64 LeftSquares first
pub record Few (ts : List Token) : Type 0 where
  pub short : length ts ≤ 4096
  pub shallow : squares_of ts ≤ 64

-- so from each token on
abbrev pub Held : List Token → Type 0
Held [] = Unit {0}
Held (t ∷ ts) = Sane t × Few (t ∷ ts) × Held ts

all_parts : (a b : Bytes) → AllBytes (a ++ b) → AllBytes a × AllBytes b
all_parts [] b h = (tt, h)
all_parts (x ∷ a) b h = let i = all_parts a b h.1 in ((h.0, i.0), i.1)

ends_rise : {n last row : ℕ} {ts : List Token} → Fit n last row ts → last ≤ end_of last ts
ends_rise none = omega arith
ends_rise (more s f) = let i = ends_rise f in omega (arith, s.order)

held : {n last row : ℕ} {ts : List Token} → Fit n last row ts → n ≤ 4096 → row ≤ 64 → end_of last ts < 4294967296 → AllBytes (encode_tokens ts) → Held ts
unfolding encode_tokens record_bytes
held none h k e a = tt
held (more {n} {last} {row} {t} {ts} s f) h k e a =
    let r = ends_rise f in
    let b = all_parts (head_bytes (12 + length t.payload) t.kind t.start t.end ++ t.payload) (encode_tokens ts) a in
    let c = all_parts (head_bytes (12 + length t.payload) t.kind t.start t.end) t.payload b.0 in
    let l = fit_length f in
    let q = fit_squares (more s f) k in (
      record { kind = s.known.1; payload = s.payload; bytes = c.1; start = omega (arith, s.order); end = omega arith },
      record { short = omega arith; shallow = omega arith },
      held f (omega arith) s.shallow e b.1,
    )

pub table_held : (table : Bytes) (ts : List Token) → AllBytes table → decode table ≡ tokens ts → Held ts
table_held table ts a d =
    let h = decode_holds table ts a d in
    held h.fit (omega arith) (omega arith) h.narrow (rw h.bytes a)

-- ---- by the kind

identifier_printable : (p : Bytes) → AllBytes p → all is_name_byte p ≡ true → all is_printable p ≡ true
identifier_printable [] a e = refl
identifier_printable (b ∷ p) a e =
    let q = (and-eq-true_iff (is_name_byte b) (all is_name_byte p)).0 e in
    let k : ltb 3 (class_of b) ≡ true = rw (class_name b a.0) at q.0 in
    let z : ltb 0 (class_of b) ≡ true = lt-ltb 0 (class_of b) (omega (arith, ltb-true 3 (class_of b) k)) in
    rw (class_printable b a.0, z) (identifier_printable p a.1 q.1)

module _ {t : Token} (s : Sane t) where
  payload_by : {k : ℕ} → Is k t → is_payload k t.payload ≡ true
  payload_by e = subst (λ (k : ℕ). is_payload k t.payload ≡ true) e s.payload

  -- an Identifier is a name
  pub identifier_name : Is k_identifier t → is_name t.payload ≡ true
  unfolding is_payload pick is_identifier is_name
  identifier_name e =
      let p = t.payload in
      let q = (and-eq-true_iff (within 1 128 (length p)) (is_name_start (get_or p 0 0) && all is_name_byte p)).0 (payload_by e) in
      let r = (and-eq-true_iff (is_name_start (get_or p 0 0)) (all is_name_byte p)).0 q.1 in
      rw q.0 (identifier_printable p s.bytes r.1)

  pub path_path : Is k_path t → is_path t.payload ≡ true
  unfolding is_payload pick
  path_path e = payload_by e

  -- an Integer is a u64
  pub integer_small : Is k_integer t → le_number t.payload < 18446744073709551616
  unfolding is_payload pick is_integer
  integer_small e =
      let l : length t.payload ≡ 8 = eqb-true (length t.payload) 8 (payload_by e) in
      rw l at (le_small t.payload s.bytes)

  pub comment_comment : Is k_comment t → is_comment t.payload ≡ true
  unfolding is_payload pick
  comment_comment e = payload_by e

  pub comment_within : Is k_comment t → CommentWithin (paragraphs_of t.payload)
  unfolding is_comment paragraphs_of
  comment_within e =
      let q = paragraphs_good 32 t.payload ((and-eq-true_iff (leb 1 (length t.payload)) (are_paragraphs 32 t.payload)).0 (comment_comment e)).1 in
      record { few = q.1; each = q.0 }

  pub comment_bytes : Is k_comment t → paragraph_bytes (paragraphs_of t.payload) ≡ t.payload
  comment_bytes e = comment_again t.payload s.bytes (comment_comment e)
