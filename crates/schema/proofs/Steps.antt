-- What the records of a schema table hold, by the kind of the first: its payload's rule, what may follow it, and the parts of the schema.
use mathlib.Core.Path.{◌≡◌, refl, sym, ◌∙◌, subst}
use mathlib.Core.Bool.{Bool, true, false, ◌||◌, and-eq-true_iff}
use mathlib.Core.List.{List, [], ◌∷◌}
use Prim.Native.Nat.{ℕ, ◌+◌, ◌≤◌}
use native.Mathlib.Omega.{arith}
use borrow.Author.Tests.{leb-true, eqb-true}
use lib.Dec.{eqb}
use lib.ListN.{length}
use Rattle.wire.specs.Bytes.{Bytes}
use Rattle.wire.specs.Le.{u16_at}
use Rattle.wire.specs.Pick.{pick}
use Rattle.token.specs.Token.{Token}
use Rattle.token.specs.Payload.{is_comment, paragraphs_of}
use Rattle.schema.specs.Ast.{TypeVariant}
use Rattle.schema.specs.Kind.{s_comment, s_import, s_struct, s_field, s_deleted, s_array, s_plain, s_custom}
use Rattle.schema.specs.Limits.{nesting}
use Rattle.schema.specs.Encode.{declaration_kind}
use Rattle.schema.specs.Payload.{name_of, after_name, indices_of, is_import, is_declaration, is_field}
use Rattle.schema.specs.Payload.{is_deleted, is_plain_type, is_custom, is_type_payload, is_payload}
use Rattle.schema.specs.Table.{may_follow, is_outside, is_importing, is_inside, is_type, is_later, row_after, is_right, is_next, are_next}
use Rattle.schema.specs.Decode.{range_of, opening_of, import_of, imports_of, optional, type_of, field_of}
use Rattle.schema.specs.Decode.{fields_of, deleted_of, variant_of, declaration_of, declarations_of, settled}
use Rattle.schema.proofs.Written.{made}

pub never : {A : Type 0} → ◌≡◌ {A = Bool} false true → A
never e = let z : ◌≡◌ {A = ℕ} 0 1 = cc in absurd (omega arith)

pub either : {A : Type 0} (a b : Bool) → (a || b) ≡ true → (a ≡ true → A) → (b ≡ true → A) → A
either true b e f g = f refl
either false b e f g = g e

-- what is shown of a record of a known kind holds of a record that has that kind
pub at_kind : (P : Token → Type 0) (r : Token) {k : ℕ} → r.kind ≡ k → P (made k (range_of r) r.payload) → P r
at_kind P r e h = subst (λ (k : ℕ). P (made k (range_of r) r.payload)) (sym e) h

-- what may stand after a record
abbrev pub After : Token → (ℕ → Bool) → Type 0
After last may = (k : ℕ) → may_follow last.kind k ≡ may k

-- what is known of the first of the records to come
pub record NextIs (last : Token) (row : ℕ) (r : Token) (rs : List Token) : Type 0 where
  pub follow : may_follow last.kind r.kind ≡ true
  pub payload : is_payload r.kind r.payload ≡ true
  pub later : is_later last.kind last.payload r.kind r.payload ≡ true
  pub nested : row_after row r.kind ≤ 64
  pub rest : are_next r (row_after row r.kind) rs ≡ true

pub next_is : {last : Token} {row : ℕ} {r : Token} {rs : List Token} → are_next last row (r ∷ rs) ≡ true → NextIs last row r rs
unfolding is_next is_right
next_is {last} {row} {r} e =
    let a = (and-eq-true_iff (is_next last row r) _).0 e in
    let d = (and-eq-true_iff (is_right last.kind row r.kind r.payload) _).0 a.0 in
    let b = (and-eq-true_iff (may_follow last.kind r.kind) _).0 d.0 in
    let c = (and-eq-true_iff (is_payload r.kind r.payload) _).0 b.1 in
    record { follow = b.0; payload = c.0; nested = leb-true (row_after row r.kind) 64 c.1; later = d.1; rest = a.1 }

module _ (r : Token) (rs : List Token) where
  pub record AtComment : Type 0 where
    pub rule : is_comment r.payload ≡ true
    pub after : After r is_importing
    pub opening : opening_of (r ∷ rs) ≡ paragraphs_of r.payload
    pub imports : imports_of (r ∷ rs) ≡ imports_of rs
    pub declarations : declarations_of (r ∷ rs) ≡ declarations_of rs

  pub record AtImport : Type 0 where
    pub rule : is_import r.payload ≡ true
    pub after : After r is_importing
    pub opening : opening_of (r ∷ rs) ≡ []
    pub imports : imports_of (r ∷ rs) ≡ import_of r ∷ imports_of rs
    pub declarations : declarations_of (r ∷ rs) ≡ declarations_of rs

  pub record AtDeclaration : Type 0 where
    pub rule : is_declaration r.payload ≡ true
    pub after : After r is_inside
    pub opening : opening_of (r ∷ rs) ≡ []
    pub imports : imports_of (r ∷ rs) ≡ []
    pub fields : fields_of (r ∷ rs) ≡ []
    pub deleted : deleted_of (r ∷ rs) ≡ []
    pub declarations : declarations_of (r ∷ rs) ≡ declaration_of r (fields_of rs) (deleted_of rs) ∷ declarations_of rs
    pub kind : declaration_kind (variant_of r.kind) ≡ r.kind
    pub settles : settled r ≡ r

  pub record AtField : Type 0 where
    pub rule : is_field r.payload ≡ true
    pub after : After r is_type
    pub fields : fields_of (r ∷ rs) ≡ field_of r (type_of rs) ∷ fields_of rs
    pub deleted : deleted_of (r ∷ rs) ≡ deleted_of rs
    pub declarations : declarations_of (r ∷ rs) ≡ declarations_of rs

  pub record AtDeleted : Type 0 where
    pub rule : is_deleted r.payload ≡ true
    pub after : After r is_outside
    pub fields : fields_of (r ∷ rs) ≡ []
    pub deleted : deleted_of (r ∷ rs) ≡ indices_of r.payload
    pub declarations : declarations_of (r ∷ rs) ≡ declarations_of rs

  -- a type, of which the parts of a declaration know nothing
  pub record AtType (rule : Bytes → Bool) (may : ℕ → Bool) (type : TypeVariant) : Type 0 where
    pub right : rule r.payload ≡ true
    pub after : After r may
    pub is : type_of (r ∷ rs) ≡ type
    pub fields : fields_of (r ∷ rs) ≡ fields_of rs
    pub deleted : deleted_of (r ∷ rs) ≡ deleted_of rs
    pub declarations : declarations_of (r ∷ rs) ≡ declarations_of rs

abbrev is_empty : Bytes → Bool
is_empty p = eqb (length p) 0

module _ (rs : List Token) where
  abbrev pub Payload : Token → Type 0
  Payload r = is_payload r.kind r.payload ≡ true

  pub at_comment : (r : Token) → r.kind ≡ s_comment → Payload r → AtComment r rs
  unfolding is_payload may_follow pick
  at_comment r e = at_kind (λ r. Payload r → AtComment r rs) r e
      (λ p. record { rule = p; after = λ k. refl; opening = refl; imports = refl; declarations = refl })

  pub at_import : (r : Token) → r.kind ≡ s_import → Payload r → AtImport r rs
  unfolding is_payload may_follow pick
  at_import r e = at_kind (λ r. Payload r → AtImport r rs) r e
      (λ p. record { rule = p; after = λ k. refl; opening = refl; imports = refl; declarations = refl })

  -- where a declaration begins, or the table would end
  pub at_declaration : (r : Token) → is_outside r.kind ≡ true → Payload r → AtDeclaration r rs
  unfolding is_payload is_type_payload may_follow pick
  at_declaration r e =
      either (eqb r.kind 0) _ e (λ q. at_kind P r (eqb-true _ _ q) (λ p. never p))
      (λ e. either (eqb r.kind s_struct) _ e
      (λ q. at_kind P r (eqb-true _ _ q) (λ p. record {
        rule = p;
        after = λ k. refl;
        opening = refl;
        imports = refl;
        fields = refl;
        deleted = refl;
        declarations = refl;
        kind = refl;
        settles = refl;
      }))
      (λ q. at_kind P r (eqb-true _ _ q) (λ p. record {
        rule = p;
        after = λ k. refl;
        opening = refl;
        imports = refl;
        fields = refl;
        deleted = refl;
        declarations = refl;
        kind = refl;
        settles = refl;
      })))
    where
      P : Token → Type 0
      P r = Payload r → AtDeclaration r rs

  pub at_field : (r : Token) → r.kind ≡ s_field → Payload r → AtField r rs
  unfolding is_payload may_follow pick
  at_field r e = at_kind (λ r. Payload r → AtField r rs) r e (λ p. record { rule = p; after = λ k. refl; fields = refl; deleted = refl; declarations = refl })

  pub at_deleted : (r : Token) → r.kind ≡ s_deleted → Payload r → AtDeleted r rs
  unfolding is_payload may_follow pick
  at_deleted r e = at_kind (λ r. Payload r → AtDeleted r rs) r e
      (λ p. record { rule = p; after = λ k. refl; fields = refl; deleted = refl; declarations = refl })

  pub at_array : (r : Token) → r.kind ≡ s_array → Payload r → AtType r rs is_empty is_type (TypeVariant.array (range_of r) (type_of rs))
  unfolding is_payload is_type_payload may_follow pick
  at_array r e = at_kind (λ r. Payload r → AtType r rs is_empty is_type (TypeVariant.array (range_of r) (type_of rs))) r e
      (λ p. record { right = p; after = λ k. refl; is = refl; fields = refl; deleted = refl; declarations = refl })

  pub at_plain : (r : Token) → r.kind ≡ s_plain → Payload r → AtType r rs is_plain_type is_inside (TypeVariant.plain (range_of r) (u16_at r.payload 0))
  unfolding is_payload is_type_payload may_follow pick
  at_plain r e = at_kind (λ r. Payload r → AtType r rs is_plain_type is_inside (TypeVariant.plain (range_of r) (u16_at r.payload 0))) r e
      (λ p. record { right = p; after = λ k. refl; is = refl; fields = refl; deleted = refl; declarations = refl })

  pub at_custom : (r : Token) → r.kind ≡ s_custom → Payload r
      → AtType r rs is_custom is_inside (TypeVariant.custom (range_of r) (optional (name_of r.payload)) (after_name r.payload))
  unfolding is_payload is_type_payload may_follow pick
  at_custom r e = at_kind (λ r. Payload r
      → AtType r rs is_custom is_inside (TypeVariant.custom (range_of r) (optional (name_of r.payload)) (after_name r.payload))) r e
      (λ p. record { right = p; after = λ k. refl; is = refl; fields = refl; deleted = refl; declarations = refl })

row_array : (row k : ℕ) → k ≡ s_array → row_after row k ≡ row + 1
unfolding row_after pick
row_array row k e = rw e

-- at most 64 arrays nest
pub nested : (rs : List Token) (last : Token) (row : ℕ) → After last is_type → row ≤ 64 → are_next last row rs ≡ true → row + nesting (type_of rs) ≤ 64
nested [] last row a h e = never (sym (a 0) ∙ e)
nested (r ∷ rs) last row a h e =
    let n : NextIs last row r rs = next_is e in
    let inner = nested rs r (row + 1) in
    either (eqb r.kind s_array) _ (sym (a r.kind) ∙ n.follow)
    (λ q.
    let k = eqb-true _ _ q in
    let t = at_array rs r k n.payload in
    let i = inner t.after (rw (row_array row r.kind k) at n.nested) (rw (row_array row r.kind k) at n.rest) in
    rw t.is (omega arith))
    (λ e. either (eqb r.kind s_plain) _ e
    (λ q. rw (at_plain rs r (eqb-true _ _ q) n.payload).is (omega arith))
    (λ q. rw (at_custom rs r (eqb-true _ _ q) n.payload).is (omega arith)))
