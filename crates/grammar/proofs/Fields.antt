-- Fields: what parse_field and parse_fields read are the derivation trees of fields, and each of those is read.
use Prim.Native.Nat.{ℕ, zero, suc, ◌≤◌}
use mathlib.Core.Path.{◌≡◌, refl, ap, ◌∙◌}
use mathlib.Core.Bool.{Bool, true, false}
use mathlib.Core.Option.{Option, none, some}
use mathlib.Core.List.{List, [], ◌∷◌}
use native.Mathlib.Omega.{arith}
use lib.ListN.{length}
use borrow.Author.Tests.{eqb-true, eq-eqb}
use Rattle.token.specs.Token.{Token}
use Rattle.token.specs.Kind.{is_rule, k_colon, k_comment, k_deleted, k_equals, k_identifier, k_integer, k_right_curly}
use Rattle.grammar.specs.Tree.{TypePart, FieldTree, optionally, each, y_type, y_type_part, y_field, Is, Passes, IfAny, All, WfTypePart, WfField}
use Rattle.grammar.specs.Error.{kind_at}
use Rattle.grammar.specs.Reading.{Result, ok, fail, is, consume, optional, parse_type, parse_type_part, parse_field, is_end, parse_fields}
use Rattle.grammar.proofs.Rules.{Read, cons≢nil, along, and_then_ok, not_kind, token_sound, token_complete, optional_sound}
use Rattle.grammar.proofs.Rules.{optional_none, optional_some, optional_token_sound, optional_token_complete, passes_is, is_passes}
use Rattle.grammar.proofs.Types.{type_sound, type_complete}
use Rattle.grammar.proofs.Eats.{field_eats}

part_sound : (ts : List Token) {o : Option TypePart} {r : List Token} → optional (is k_colon) parse_type_part ts ≡ ok o r
    → Read (optionally y_type_part) (IfAny WfTypePart) ts o r
part_sound =
    optional_sound (is k_colon) parse_type_part y_type_part WfTypePart λ c ts x r e h.
    and_then_ok (parse_type ts) _ h λ y ts₁ p q.
    let s = type_sound ts p in
    along (Read y_type_part WfTypePart (c ∷ ts)) q (ap (◌∷◌ c) s.0, record { colon = eqb-true c.kind k_colon e; type = s.1 })

part_complete : (o : Option TypePart) (e : Token) (r : List Token) → IfAny WfTypePart o → Is k_equals e
    → optional (is k_colon) parse_type_part (optionally y_type_part o (e ∷ r)) ≡ ok o (e ∷ r)
part_complete none e r w h = optional_none (is k_colon) parse_type_part (e ∷ r) (rw h)
part_complete (some p) e r w h =
    optional_some (is k_colon) parse_type_part p.colon (y_type p.type (e ∷ r)) p (e ∷ r) (eq-eqb p.colon.kind k_colon w.colon)
    (rw (type_complete p.type (e ∷ r) w.type (rw h)))

pub field_sound : (ts : List Token) {f : FieldTree} {r : List Token} → parse_field ts ≡ ok f r → Read y_field WfField ts f r
field_sound ts h =
    and_then_ok (optional (is k_comment) ok ts) _ h λ c ts₁ p₁ h₁.
    and_then_ok (optional is_rule ok ts₁) _ h₁ λ x ts₂ p₂ h₂.
    and_then_ok (consume 8 (is k_identifier) ts₂) _ h₂ λ n ts₃ p₃ h₃.
    and_then_ok (optional (is k_colon) parse_type_part ts₃) _ h₃ λ y ts₄ p₄ h₄.
    and_then_ok (consume 12 (is k_equals) ts₄) _ h₄ λ e ts₅ p₅ h₅.
    and_then_ok (consume 13 (is k_integer) ts₅) _ h₅ λ i ts₆ p₆ h₆.
    let q₁ = optional_token_sound (is k_comment) ts p₁ in
    let q₂ = optional_token_sound is_rule ts₁ p₂ in
    let q₃ = token_sound 8 k_identifier ts₂ p₃ in
    let q₄ = part_sound ts₃ p₄ in
    let q₅ = token_sound 12 k_equals ts₄ p₅ in
    let q₆ = token_sound 13 k_integer ts₅ p₆ in
    along (Read y_field WfField ts) h₆
    (cc, record { comment = is_passes k_comment c q₁.1; rule = q₂.1; name = q₃.1; type = q₄.1; equals = q₅.1; index = q₆.1 })

-- after a field's comment stands a rule or a name
not_comment : (o : Option Token) (n : Token) (r : List Token) → IfAny (Passes is_rule) o → Is k_identifier n
    → is k_comment (kind_at (optionally ◌∷◌ o (n ∷ r))) ≡ false
not_comment none n r w h = rw h
not_comment (some t) n r w h = not_kind is_rule t.kind k_comment w refl

pub field_complete : (f : FieldTree) (r : List Token) → WfField f → parse_field (y_field f r) ≡ ok f r
field_complete f r w =
    let after : is_rule f.name.kind ≡ false = rw w.name in
    rw (
      optional_token_complete (is k_comment) f.comment _ (passes_is k_comment f.comment w.comment)
          (not_comment f.rule f.name _ w.rule w.name),
      parse_field,
    )
    (rw (optional_token_complete is_rule f.rule _ w.rule after)
    (rw (token_complete 8 k_identifier f.name _ w.name)
    (rw (part_complete f.type f.equals _ w.type w.equals)
    (rw (token_complete 12 k_equals f.equals _ w.equals) (rw (token_complete 13 k_integer f.index r w.index))))))

-- where no field failed, the fields up to the end
pub fields_sound : (k end : ℕ) (ts : List Token) → (parse_fields k end ts).errors ≡ []
    → Read (each y_field) (All WfField) ts (parse_fields k end ts).value (parse_fields k end ts).rest
fields_sound zero end ts h = (refl, tt)
fields_sound (suc k) end ts h = go (is_end ts) (parse_field ts) refl refl (fields_sound k end)
  where
    go : (b : Bool) (m : Result FieldTree) → is_end ts ≡ b → parse_field ts ≡ m
        → ((us : List Token) → (parse_fields k end us).errors ≡ []
        → Read (each y_field) (All WfField) us (parse_fields k end us).value (parse_fields k end us).rest)
        → Read (each y_field) (All WfField) ts (parse_fields (suc k) end ts).value (parse_fields (suc k) end ts).rest
    go true m e p ih = rw (e, parse_fields) (refl, tt)
    go false (fail n r) e p ih = absurd (cons≢nil (rw (e, p, parse_fields) at h))
    go false (ok f r) e p ih =
        let q = field_sound ts p in
        let i = ih r (rw (e, p, parse_fields) at h) in
        rw (e, p, parse_fields) (q.0 ∙ ap (y_field f) i.0, (q.1, i.1))

-- a field does not stand where the fields end
begins_field : (c x : Option Token) (n : Token) (r : List Token) → IfAny (Is k_comment) c → IfAny (Passes is_rule) x → Is k_identifier n
    → is_end (optionally ◌∷◌ c (optionally ◌∷◌ x (n ∷ r))) ≡ false
begins_field (some c) x n r w v h = rw w
begins_field none none n r w v h = rw h
begins_field none (some x) n r w v h = rw (not_kind is_rule x.kind k_deleted v refl, not_kind is_rule x.kind k_right_curly v refl)

pub fields_complete : (fs : List FieldTree) (r : List Token) → All WfField fs → is_end r ≡ true → (k end : ℕ) → length (each y_field fs r) ≤ k
    → parse_fields k end (each y_field fs r) ≡ record { errors = []; value = fs; rest = r }
fields_complete [] r w h zero end l = refl
fields_complete [] r w h (suc k) end l = rw (h, parse_fields)
fields_complete (f ∷ fs) r w h zero end l = absurd (omega (arith, field_eats f (each y_field fs r)))
fields_complete (f ∷ fs) r w h (suc k) end l =
    let rest = each y_field fs r in
    rw (begins_field f.comment f.rule f.name _ w.0.comment w.0.rule w.0.name, field_complete f rest w.0, parse_fields)
    (rw (fields_complete fs r w.1 h k end (omega (arith, field_eats f rest))))
