-- The records that a schema within the limits is written as fit their places, and follow one another as a schema table's do.
use mathlib.Core.Path.{◌≡◌, refl}
use mathlib.Core.Bool.{Bool, true, false, and-eq-true_iff}
use mathlib.Core.List.{List, [], ◌∷◌}
use Prim.Native.Nat.{ℕ, ◌+◌, ◌≤◌, ◌<◌}
use native.Mathlib.Nat.{zero-add}
use native.Mathlib.Omega.{arith}
use borrow.Author.Tests.{le-leb}
use lib.Dec.{eqb}
use Rattle.wire.specs.Bytes.{Bytes}
use Rattle.wire.specs.Pick.{pick}
use Rattle.identifier.specs.Order.{is_before}
use Rattle.token.specs.Token.{Token}
use Rattle.schema.specs.Ast.{Range, TypeVariant, Field, Import, DeclarationVariant, Declaration, Schema}
use Rattle.schema.specs.Kind.{s_import, s_struct, s_choice, s_field, s_deleted, s_array, s_plain, s_custom}
use Rattle.schema.specs.Order.{is_chain_after, is_chain}
use Rattle.schema.specs.Limits.{Each, RangeWithin, CommentWithin, ImportWithin, TypeWithin, nesting}
use Rattle.schema.specs.Limits.{FieldWithin, DeletedWithin, DeclarationWithin, is_earlier, Within}
use Rattle.schema.specs.Encode.{nowhere, declaration_kind, declaration_payload, import_payload}
use Rattle.schema.specs.Payload.{name_of, is_type_payload, is_payload}
use Rattle.schema.specs.Table.{may_follow, is_later, row_after, is_right, is_next, are_next, outset}
use Rattle.schema.proofs.Records.{AllFit}
use Rattle.token.proofs.Encode.{Narrow}
use Rattle.schema.proofs.Payloads.{Right, name_is, import_right, comment_right, declaration_right, field_right, deleted_right, plain_right, custom_right}
use Rattle.schema.proofs.Written.{made, comment_records, import_records, type_records, field_records, deleted_records, declaration_records, schema_records}

-- what may stand after a record of a kind: a declaration or nothing; more of a declaration; a type
record Outside (k : ℕ) : Type 0 where
  struct : may_follow k s_struct ≡ true
  choice : may_follow k s_choice ≡ true
  end : may_follow k 0 ≡ true

record Inside (k : ℕ) : Type 0 where
  field : may_follow k s_field ≡ true
  deleted : may_follow k s_deleted ≡ true
  outside : Outside k

record Typed (k : ℕ) : Type 0 where
  array : may_follow k s_array ≡ true
  plain : may_follow k s_plain ≡ true
  custom : may_follow k s_custom ≡ true

-- the records are right after one that ends a row of arrays
pub record Next (last : Token) (row : ℕ) (rs : List Token) : Type 0 where
  pub are : are_next last row rs ≡ true

-- one more record
next : {last : Token} {row kind : ℕ} {r : Range} {p : Bytes} {rs : List Token} → may_follow last.kind kind ≡ true → is_payload kind p ≡ true
    → is_later last.kind last.payload kind p ≡ true → row_after row kind ≤ 64 → Next (made kind r p) (row_after row kind) rs
    → Next last row (made kind r p ∷ rs)
unfolding is_next is_right
next a b c d e = record { are = rw (a, b, le-leb _ 64 d, c, e.are) }

types_next : (y : TypeVariant) (last : Token) (row : ℕ) (rs : List Token) → Typed last.kind → row + nesting y ≤ 64 → TypeWithin y
    → ((last : Token) → Inside last.kind → Next last 0 rs) → Next last row (type_records y rs)
unfolding may_follow pick is_payload is_type_payload is_later row_after
types_next (TypeVariant.array r inner) last row rs a h w k =
    next a.array refl refl (omega arith)
    (types_next inner (made s_array r []) (row + 1) rs (record { array = refl; plain = refl; custom = refl }) (omega arith) w.1 k)
types_next (TypeVariant.plain r kind) last row rs a h w k =
    next a.plain (plain_right kind w.1).right refl (omega arith)
    (k _ (record { field = refl; deleted = refl; outside = record { struct = refl; choice = refl; end = refl } }))
types_next (TypeVariant.custom r import name) last row rs a h w k =
    next a.custom (custom_right import name w.1 w.2).right refl (omega arith)
    (k _ (record { field = refl; deleted = refl; outside = record { struct = refl; choice = refl; end = refl } }))

fields_next : (fs : List Field) (last : Token) (rs : List Token) → Inside last.kind → Each FieldWithin fs
    → ((last : Token) → Inside last.kind → Next last 0 rs) → Next last 0 (field_records fs rs)
unfolding may_follow pick is_payload is_type_payload is_later row_after
fields_next [] last rs a w k = k last a
fields_next (f ∷ fs) last rs a w k =
    next a.field (field_right f w.0).right refl (omega arith)
    (types_next f.type _ 0 (field_records fs rs) (record { array = refl; plain = refl; custom = refl }) (rw zero-add w.0.nested) w.0.type
    (λ last a. fields_next fs last rs a w.1 k))

deleted_next : (ns : List ℕ) (last : Token) (rs : List Token) → Inside last.kind → DeletedWithin ns
    → ((last : Token) → Outside last.kind → Next last 0 rs) → Next last 0 (deleted_records ns rs)
unfolding may_follow pick is_payload is_type_payload is_later row_after
deleted_next [] last rs a w k = k last a.outside
deleted_next (n ∷ ns) last rs a w k =
    next a.deleted (deleted_right n ns w).right refl (omega arith) (k _ (record { struct = refl; choice = refl; end = refl }))

declarations_next : (ds : List Declaration) (last : Token) → Outside last.kind → Each DeclarationWithin ds → Next last 0 (declaration_records ds)
unfolding may_follow pick is_payload is_type_payload is_later row_after
declarations_next [] last a w = record { are = a.end }
declarations_next (d ∷ ds) last a w = go d.variant (λ last a. declarations_next ds last a w.1)
  where
    more : List Token → List Token
    more rs = field_records d.fields (deleted_records d.deleted rs)

    body : (rs : List Token) (last : Token) → Inside last.kind → ((last : Token) → Outside last.kind → Next last 0 rs) → Next last 0 (more rs)
    body rs last i k = fields_next d.fields last (deleted_records d.deleted rs) i w.0.fields
        (λ last i. deleted_next d.deleted last rs i w.0.deleted k)

    go : (v : DeclarationVariant) → ((last : Token) → Outside last.kind → Next last 0 (declaration_records ds))
        → Next last 0 (made (declaration_kind v) d.range (declaration_payload d) ∷ more (declaration_records ds))
    go DeclarationVariant.struct k =
        next a.struct (declaration_right d w.0).right refl (omega arith)
        (body _ _ (record { field = refl; deleted = refl; outside = record { struct = refl; choice = refl; end = refl } }) k)
    go DeclarationVariant.choice k =
        next a.choice (declaration_right d w.0).right refl (omega arith)
        (body _ _ (record { field = refl; deleted = refl; outside = record { struct = refl; choice = refl; end = refl } }) k)

module _ (ds : List Declaration) (w : Each DeclarationWithin ds) where
  imports_after_lem : (i : Import) (is : List Import) → ImportWithin i → Each ImportWithin is → is_chain_after is_earlier i is ≡ true
      → Next (made s_import i.range (import_payload i)) 0 (import_records is (declaration_records ds))
  unfolding may_follow pick is_payload is_type_payload is_later row_after
  imports_after_lem i [] v ws c = declarations_next ds _ (record { struct = refl; choice = refl; end = refl }) w
  imports_after_lem i (j ∷ is) v ws c =
      let b = (and-eq-true_iff (is_earlier i j) _).0 c in
      let e : is_before (name_of (import_payload i)) (name_of (import_payload j)) ≡ true =
      rw (name_is i.name i.path v.name, name_is j.name j.path ws.0.name) b.0 in
      next refl (import_right j ws.0).right e (omega arith) (imports_after_lem j is ws.0 ws.1 b.1)

  imports_next : (is : List Import) (last : Token) → may_follow last.kind s_import ≡ true → eqb last.kind s_import ≡ false → Outside last.kind
      → Each ImportWithin is → is_chain is_earlier is ≡ true → Next last 0 (import_records is (declaration_records ds))
  unfolding is_payload is_type_payload is_later row_after pick
  imports_next [] last a b o ws c = declarations_next ds last o w
  imports_next (i ∷ is) last a b o ws c = next a (import_right i ws.0).right (rw b) (omega arith) (imports_after_lem i is ws.0 ws.1 c)

pub schema_next : (s : Schema) → Within s → are_next outset 0 (schema_records s) ≡ true
unfolding may_follow pick is_payload is_type_payload is_later row_after
schema_next s w = (go s.comment w.comment).are
  where
    imports : (last : Token) → may_follow last.kind s_import ≡ true → eqb last.kind s_import ≡ false → Outside last.kind
        → Next last 0 (import_records s.imports (declaration_records s.declarations))
    imports last a b o = imports_next s.declarations w.declarations s.imports last a b o w.imports w.ascending

    go : (ps : List Bytes) → CommentWithin ps → Next outset 0 (comment_records ps (import_records s.imports (declaration_records s.declarations)))
    go [] v = imports outset refl refl (record { struct = refl; choice = refl; end = refl })
    go (p ∷ ps) v =
        next refl (comment_right p ps v).right refl (omega arith) (imports _ refl refl (record { struct = refl; choice = refl; end = refl }))

-- the numbers of a record with a right payload
fits : {rule : Bytes → Bool} {kind : ℕ} {r : Range} {p : Bytes} → kind < 65536 → RangeWithin r → Right rule p → Narrow (made kind r p)
fits k r p = record { kind = k; start = r.start; end = r.end; size = p.short }

nowhere_within : RangeWithin nowhere
nowhere_within = record { start = omega arith; end = omega arith }

type_fits : (y : TypeVariant) (rs : List Token) → TypeWithin y → AllFit rs → AllFit (type_records y rs)
type_fits (TypeVariant.array r inner) rs w f =
    (record { kind = omega arith; start = w.0.start; end = w.0.end; size = omega arith }, type_fits inner rs w.1 f)
type_fits (TypeVariant.plain r kind) rs w f = (fits (omega arith) w.0 (plain_right kind w.1), f)
type_fits (TypeVariant.custom r import name) rs w f = (fits (omega arith) w.0 (custom_right import name w.1 w.2), f)

fields_fit : (fs : List Field) (rs : List Token) → Each FieldWithin fs → AllFit rs → AllFit (field_records fs rs)
fields_fit [] rs w f = f
fields_fit (g ∷ fs) rs w f = (fits (omega arith) w.0.range (field_right g w.0), type_fits g.type _ w.0.type (fields_fit fs rs w.1 f))

deleted_fit : (ns : List ℕ) (rs : List Token) → DeletedWithin ns → AllFit rs → AllFit (deleted_records ns rs)
deleted_fit [] rs w f = f
deleted_fit (n ∷ ns) rs w f = (fits (omega arith) nowhere_within (deleted_right n ns w), f)

declaration_small : (v : DeclarationVariant) → declaration_kind v < 65536
declaration_small DeclarationVariant.struct = omega arith
declaration_small DeclarationVariant.choice = omega arith

declarations_fit : (ds : List Declaration) → Each DeclarationWithin ds → AllFit (declaration_records ds)
declarations_fit [] w = tt
declarations_fit (d ∷ ds) w = (
  fits (declaration_small d.variant) w.0.range (declaration_right d w.0),
  fields_fit d.fields _ w.0.fields (deleted_fit d.deleted _ w.0.deleted (declarations_fit ds w.1)),
)

imports_fit : (is : List Import) (rs : List Token) → Each ImportWithin is → AllFit rs → AllFit (import_records is rs)
imports_fit [] rs w f = f
imports_fit (i ∷ is) rs w f = (fits (omega arith) w.0.range (import_right i w.0), imports_fit is rs w.1 f)

comment_fits : (ps : List Bytes) (rs : List Token) → CommentWithin ps → AllFit rs → AllFit (comment_records ps rs)
comment_fits [] rs w f = f
comment_fits (p ∷ ps) rs w f = (fits (omega arith) nowhere_within (comment_right p ps w), f)

pub schema_fits : (s : Schema) → Within s → AllFit (schema_records s)
schema_fits s w = comment_fits s.comment _ w.comment (imports_fit s.imports _ w.imports (declarations_fit s.declarations w.declarations))
