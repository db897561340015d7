-- Types: a base of one token or dotted, and a pair of brackets around a type.
use Prim.Native.Nat.{ℕ, ◌+◌, ◌*◌}
use mathlib.Core.Path.{◌≡◌, refl, sym, ap, ◌∙◌}
use mathlib.Core.Bool.{Bool, true, false, not}
use mathlib.Core.List.{List, [], ◌∷◌}
use native.Mathlib.Omega.{arith}
use native.Mathlib.Nat.{add-zero}
use native.Mathlib.Numerals.{add-one}
use borrow.Author.Tests.{eqb-true, eq-eqb, ne_eqb}
use lib.Dec.{eqb}
use lib.ListN.{length}
use Rattle.std.specs.Prelude.{Some}
use Rattle.wire.specs.Bytes.{Bytes}
use Rattle.wire.specs.Pick.{pick}
use Rattle.token.specs.Token.{Token}
use Rattle.token.specs.Kind.{is_plain, k_colon, k_dot, k_identifier, k_left_square, k_right_square}
use Rattle.token.specs.Kinds.{number_of}
use Rattle.token.specs.declared.kind.Kind.{Kind}
use Rattle.token.specs.declared.kind.Kind.TheVariants.{LeftSquare}
use Rattle.token.specs.Payload.{is_payload}
use Rattle.token.specs.Places.{tok_at, next_at, Wf}
use Rattle.token.proofs.Walk.{wf_good, wf_inside, next_is, next_past, payload_length}
use Rattle.grammar.specs.Error.{kind_at}
use Rattle.grammar.specs.Tree.{TypeTree}
use Rattle.grammar.specs.Reading.{Result as Answer, ok, fail, is, consume, optional, is_dotted, parse_single, parse_closing, parse_type, parse_type_part}
use Rattle.grammar.proofs.Rules.{cons≢nil, not_kind, token_sound}
use Rattle.parser.specs.Trees.{base_at}
use Rattle.parser.specs.Laid.{base_end, type_laid}
use Rattle.parser.specs.Steps.{ahead, Stands, Stepped, Reads, TokenPassed, BaseStands, TypePassed, base_step, PartPassed}
use Rattle.parser.specs.declared.Cursor.{Cursor}
use Rattle.parser.specs.declared.TypePlaces.{TypePlaces}
use Rattle.parser.proofs.Laws.{none_left, then, stop, done, present, broken}

-- A dot, and one token more.
pub no_dot : {k : ℕ} (ts : List Token) → k ≡ kind_at ts → (k ≡ k_dot → ⊥) → false ≡ is_dotted ts
no_dot [] e n = refl
no_dot (d ∷ []) e n = refl
no_dot (d ∷ x ∷ ts) e n = sym (ne_eqb _ _ λ z. n (e ∙ z))

pub dot : {t : Bytes} {c d : Cursor} → Stepped t c d → is k_dot (kind_at (ahead t c)) ≡ true → not (eqb (kind_at (ahead t d)) 0) ≡ is_dotted (ahead t c)
dot {t} {c} {d} s e = rw s.first (go (ahead t d) refl)
  where
    go : (ts : List Token) → ahead t d ≡ ts → not (eqb (kind_at ts) 0) ≡ is_dotted (tok_at t c.at ∷ ts)
    go [] q = refl
    go (n ∷ ts) q =
        let k : eqb n.kind 0 ≡ false = ne_eqb _ 0 λ z. cons≢nil (sym q ∙ none_left t d.at s.wf (ap kind_at q ∙ z)) in
        rw (k, rw s.first at e)

-- A base.
abbrev pub Based : Bytes → Cursor → (List Token → Answer TypeTree) → Bool → Cursor → Type 0
Based t c rule dotted after = TypePassed t c rule (base_step c dotted after).0 after

module _ {t : Bytes} {c after : Cursor} where
  base : {rule : List Token → Answer TypeTree} (dotted : Bool) → Reads t c rule (ok (base_at t c.at dotted)) after → BaseStands t c.at dotted
      → after.at ≡ base_end t dotted c.at
      → Based t c rule dotted after
  base dotted r s e = record { read = r; stands = record { brackets = tt; base = s }; laid = rw (add-zero, e); end = omega arith }

  pub single : TokenPassed t c (consume 9 (is k_identifier)) after → Based t c parse_single false after
  unfolding pick
  single p =
      let k = eq-eqb _ k_identifier (token_sound 9 k_identifier (ahead t c) p.read.gives).1 in
      base false (rw k (then _ p.read (done p.read.wf))) p.here p.place

-- no token
pub no_type : {t : Bytes} {c : Cursor} → Wf t c.at → kind_at (ahead t c) ≡ 0 → Reads t c parse_type (fail 9) c
no_type {t} {c} w e = record { gives = rw (none_left t c.at w e); wf = w; onward = omega arith }

pub plain : {t : Bytes} {c d : Cursor} → Stepped t c d → is_plain (kind_at (ahead t c)) ≡ true → Based t c parse_type false d
unfolding pick
plain {t} {c} s e =
    let k = (tok_at t c.at).kind in
    let p : is_plain k ≡ true = rw s.first at e in
    let square = not_kind is_plain k k_left_square p refl in
    let name = not_kind is_plain k k_identifier p refl in
    base false (rw name (record { gives = rw s.first (rw (square, p, parse_type)); wf = s.wf; onward = omega (arith, s.place, next_past t c.at) }))
    s.here s.place

-- Brackets.
bare_size : {t : Bytes} {at : ℕ} (k : ℕ) → ((p : Bytes) → is_payload k p ≡ eqb (length p) 0) → Stands t at → (tok_at t at).kind ≡ k → next_at t at ≡ at + 12
bare_size {t} {at} k bare s e =
    let p = (tok_at t at).payload in
    let z = eqb-true (length p) 0 (sym (bare p) ∙ (rw e at (wf_good s.0 s.1).sound.payload)) in
    omega (arith, z, payload_length s.0 s.1, (wf_inside s.0 s.1).head, next_is s.0 s.1)

left_size : {t : Bytes} {at : ℕ} → Stands t at → (tok_at t at).kind ≡ k_left_square → next_at t at ≡ at + 12
unfolding is_payload pick
left_size = bare_size k_left_square (λ p. refl)

right_size : {t : Bytes} {at : ℕ} → Stands t at → (tok_at t at).kind ≡ k_right_square → next_at t at ≡ at + 12
unfolding is_payload pick
right_size = bare_size k_right_square (λ p. refl)

pub is_square : {kind : Kind} {k : ℕ} → number_of kind ≡ k → kind ≡ LeftSquare → is k_left_square k ≡ true
is_square e s = eq-eqb _ _ (sym e ∙ ap number_of s)

-- a `[` stands at c, and d is past it
module _ {t : Bytes} {c d : Cursor} (s : Stepped t c d) (e : is k_left_square (kind_at (ahead t c)) ≡ true) where
  square : (tok_at t c.at).kind ≡ k_left_square
  square = eqb-true _ _ (rw s.first at e)

  bracket : {out : List Token → Answer TypeTree} {f : Cursor} → Reads t d (λ ts. parse_closing (tok_at t c.at) (parse_type ts)) out f
      → Reads t c parse_type out f
  bracket r =
      record {
        gives = rw s.first (rw (rw s.first at e, parse_type) r.gives);
        wf = r.wf;
        onward = omega (arith, r.onward, s.place, next_past t c.at);
      }

  pub inner_fails : {n : ℕ} {f : Cursor} → Reads t d parse_type (fail n) f → Reads t c parse_type (fail n) f
  inner_fails r = bracket (stop _ r)

  module _ {p : TypePlaces} {close : Cursor} (w : TypePassed t d parse_type p close) where
    pub closing_fails : {n : ℕ} {f : Cursor} → Reads t close (consume 11 (is k_right_square)) (fail n) f → Reads t c parse_type (fail n) f
    closing_fails r = bracket (then _ w.read (stop _ r))

    pub closed : {after : Cursor} → TokenPassed t close (consume 11 (is k_right_square)) after
        → TypePassed t c parse_type (record { opens = c.at; depth = p.depth + 1; base = p.base; dotted = p.dotted; close = p.close }) after
    closed r =
        let q : p.opens ≡ next_at t c.at = ap (λ (x : TypePlaces). x.opens) w.laid ∙ s.place in
        let z : d.at + 12 * p.depth ≡ c.at + 12 * (p.depth + 1) = omega (arith, left_size s.here square, s.place) in
        record {
          read = rw (add-one, ← w.end, ← q) (bracket (then _ w.read (then _ r.read (done r.read.wf))));
          stands = record { brackets = rw (add-one, ← w.end, ← q) (s.here, r.here, w.stands.brackets); base = w.stands.base };
          laid = λ i. record {
            opens = c.at;
            depth = p.depth + 1;
            base = (ap (λ (x : TypePlaces). x.base) w.laid ∙ z) i;
            dotted = p.dotted;
            close = (ap (λ (x : TypePlaces). x.close) w.laid ∙ ap (base_end t p.dotted) z) i;
          };
          end = omega (arith, right_size r.here (token_sound 11 k_right_square (ahead t close) r.read.gives).1, r.place, w.end);
        }

-- After a colon.
module _ {t : Bytes} {c d : Cursor} (s : Stepped t c d) (k : is k_colon (kind_at (ahead t c)) ≡ true) where
  pub typed : {p : TypePlaces} {after : Cursor} → TypePassed t d parse_type p after → PartPassed t c (Some (record { colon = c.at; ty = p })) after
  typed {p} w =
      record {
        read = present (is k_colon) parse_type_part s k (then _ w.read (done w.read.wf));
        stands = (s.here, w.stands);
        laid = ap (λ (x : TypePlaces). Some (record { colon = c.at; ty = x })) (w.laid ∙ ap (λ (n : ℕ). type_laid t n p.depth p.dotted) s.place);
        end = w.end;
      }

  pub mistyped : {n : ℕ} {e : Cursor} → Reads t d parse_type (fail n) e → Reads t c (optional (is k_colon) parse_type_part) (fail n) e
  mistyped r = broken (is k_colon) parse_type_part s k (stop _ r)
