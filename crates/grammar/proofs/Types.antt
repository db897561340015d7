-- Types: what parse_type reads are the derivation trees of types, and each of those is read.
use mathlib.Core.Path.{◌≡◌, refl}
use mathlib.Core.Bool.{Bool, true, false}
use mathlib.Core.List.{List, [], ◌∷◌}
use lib.Dec.{eqb}
use borrow.Author.Tests.{eqb-true, eq-eqb}
use Rattle.token.specs.Token.{Token}
use Rattle.token.specs.Kind.{is_plain, k_dot, k_identifier, k_left_square, k_right_square}
use Rattle.grammar.specs.Tree.{TypeTree, array, plain, single, dotted, y_type, WfType}
use Rattle.grammar.specs.Error.{kind_at}
use Rattle.grammar.specs.Reading.{ok, is, consume, is_dotted, parse_dotted, parse_single, parse_type}
use Rattle.grammar.proofs.Rules.{Read, fail≢ok, along, and_then_ok, not_kind, token_sound, token_complete}

single_sound : (ts : List Token) {y : TypeTree} {r : List Token} → parse_single ts ≡ ok y r → Read y_type WfType ts y r
single_sound ts h =
    and_then_ok (consume 9 (is k_identifier) ts) _ h λ n ts₁ p q.
    along (Read y_type WfType ts) q (token_sound 9 k_identifier ts p)

dotted_sound : (ts : List Token) {y : TypeTree} {r : List Token} → parse_dotted ts ≡ ok y r → Read y_type WfType ts y r
dotted_sound ts h =
    and_then_ok (consume 10 (is k_identifier) ts) _ h λ i ts₁ p₁ h₁.
    and_then_ok (consume 9 (is k_dot) ts₁) _ h₁ λ d ts₂ p₂ h₂.
    and_then_ok (consume 9 (is k_identifier) ts₂) _ h₂ λ n ts₃ p₃ h₃.
    let q₁ = token_sound 10 k_identifier ts p₁ in
    let q₂ = token_sound 9 k_dot ts₁ p₂ in
    let q₃ = token_sound 9 k_identifier ts₂ p₃ in
    along (Read y_type WfType ts) h₃ (cc, (q₁.1, q₂.1, q₃.1))

pub type_sound : (ts : List Token) {y : TypeTree} {r : List Token} → parse_type ts ≡ ok y r → Read y_type WfType ts y r
type_sound [] h = absurd (fail≢ok h)
type_sound (t ∷ ts) {y} {r} h = square (eqb t.kind k_left_square) refl (λ z s e. type_sound ts {y = z} {r = s} e)
  where
    rest : (a b : Bool) → is_plain t.kind ≡ a → is_dotted ts ≡ b → eqb t.kind k_left_square ≡ false → Read y_type WfType (t ∷ ts) y r
    rest true b g e f = along (Read y_type WfType (t ∷ ts)) (rw (f, g, parse_type) at h) (refl, g)
    rest false true g e f = dotted_sound (t ∷ ts) (rw (f, g, e, parse_type) at h)
    rest false false g e f = single_sound (t ∷ ts) (rw (f, g, e, parse_type) at h)

    square : (b : Bool) → eqb t.kind k_left_square ≡ b → ((z : TypeTree) (s : List Token) → parse_type ts ≡ ok z s → Read y_type WfType ts z s)
        → Read y_type WfType (t ∷ ts) y r
    square false e ih = rest (is_plain t.kind) (is_dotted ts) refl refl e
    square true e ih =
        and_then_ok (parse_type ts) _ (rw (e, parse_type) at h) λ z ts₁ p₁ h₁.
        and_then_ok (consume 11 (is k_right_square) ts₁) _ h₁ λ c ts₂ p₂ h₂.
        let q₁ = ih z ts₁ p₁ in
        let q₂ = token_sound 11 k_right_square ts₁ p₂ in
        along (Read y_type WfType (t ∷ ts)) h₂ (cc, (eqb-true t.kind k_left_square e, q₁.1, q₂.1))

not_dotted : (ts : List Token) → is k_dot (kind_at ts) ≡ false → is_dotted ts ≡ false
not_dotted [] h = refl
not_dotted (d ∷ []) h = refl
not_dotted (d ∷ n ∷ ts) h = h

-- a type is read wherever no dot follows it
pub type_complete : (y : TypeTree) (r : List Token) → WfType y → is k_dot (kind_at r) ≡ false → parse_type (y_type y r) ≡ ok y r
type_complete (array l y c) r w h =
    let after : is k_dot c.kind ≡ false = rw w.2 in
    rw (eq-eqb l.kind k_left_square w.0, parse_type) (rw (type_complete y (c ∷ r) w.1 after) (rw (token_complete 11 k_right_square c r w.2)))
type_complete (plain t) r w h = rw (not_kind is_plain t.kind k_left_square w refl, w, parse_type)
type_complete (single n) r w h =
    let f : eqb n.kind k_left_square ≡ false = rw w in
    let g : is_plain n.kind ≡ false = rw w in
    rw (f, g, not_dotted r h, parse_type) (rw (token_complete 9 k_identifier n r w))
type_complete (dotted i d n) r w h =
    let f : eqb i.kind k_left_square ≡ false = rw w.0 in
    let g : is_plain i.kind ≡ false = rw w.0 in
    rw (f, g, eq-eqb d.kind k_dot w.1, parse_type)
    (rw (token_complete 10 k_identifier i (d ∷ n ∷ r) w.0) (rw (token_complete 9 k_dot d (n ∷ r) w.1) (rw (token_complete 9 k_identifier n r w.2))))
