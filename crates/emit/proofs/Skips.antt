-- In a declaration no `}` stands before its own: what skips to the first one passes the fields and the deleted indices.
use Prim.Native.Nat.{ℕ}
use mathlib.Core.Path.{◌≡◌, refl, ap, ◌∙◌}
use mathlib.Core.Bool.{Bool, true, not}
use mathlib.Core.Option.{Option, none, some}
use mathlib.Core.List.{List, [], ◌∷◌}
use Rattle.token.specs.Token.{Token}
use Rattle.token.specs.Kind.{is_plain, is_rule, k_colon, k_comment, k_deleted, k_dot, k_equals, k_identifier, k_integer, k_left_square, k_right_curly, k_right_square}
use Rattle.grammar.specs.Tree.{TypeTree, array, plain, single, dotted, TypePart, FieldTree, DeletedPart, optionally, each, y_type}
use Rattle.grammar.specs.Tree.{y_type_part, y_field, y_deleted, Is, Passes, IfAny, All, WfType, WfTypePart, WfField, WfDeleted}
use Rattle.grammar.specs.Reading.{skip}
use Rattle.grammar.proofs.Rules.{not_kind}
use Rattle.emit.specs.Emits.{is_other}

pub skip_other : (x : Token) (r : List Token) → is_other x.kind ≡ true → skip is_other (x ∷ r) ≡ skip is_other r
skip_other x r e = rw (e, skip)

pub skip_right : (z : Token) (r : List Token) → Is k_right_curly z → skip is_other (z ∷ r) ≡ z ∷ r
skip_right z r w = let e : is_other z.kind ≡ Bool.false = rw w in rw (e, skip)

-- a token of another kind
skip_is : (k : ℕ) → is_other k ≡ true → (x : Token) (r : List Token) → Is k x → skip is_other (x ∷ r) ≡ skip is_other r
skip_is k e x r w = skip_other x r (rw w e)

skip_passes : (test : ℕ → Bool) → test k_right_curly ≡ Bool.false → (x : Token) (r : List Token) → Passes test x → skip is_other (x ∷ r) ≡ skip is_other r
skip_passes test e x r w = skip_other x r (ap not (not_kind test x.kind k_right_curly w e))

module _ {A : Type 0} (y : A → List Token → List Token) (Wf : A → Type 0) (pass : (x : A) (r : List Token) → Wf x → skip is_other (y x r) ≡ skip is_other r) where
  skip_optionally : (o : Option A) (r : List Token) → IfAny Wf o → skip is_other (optionally y o r) ≡ skip is_other r
  skip_optionally none r w = refl
  skip_optionally (some x) r w = pass x r w

  skip_each : (xs : List A) (r : List Token) → All Wf xs → skip is_other (each y xs r) ≡ skip is_other r
  skip_each [] r w = refl
  skip_each (x ∷ xs) r w = pass x (each y xs r) w.0 ∙ skip_each xs r w.1

skip_type : (y : TypeTree) (r : List Token) → WfType y → skip is_other (y_type y r) ≡ skip is_other r
skip_type (array l y z) r w = skip_is k_left_square refl l _ w.0 ∙ skip_type y (z ∷ r) w.1 ∙ skip_is k_right_square refl z r w.2
skip_type (plain x) r w = skip_passes is_plain refl x r w
skip_type (single n) r w = skip_is k_identifier refl n r w
skip_type (dotted i d n) r w = skip_is k_identifier refl i _ w.0 ∙ skip_is k_dot refl d _ w.1 ∙ skip_is k_identifier refl n r w.2

skip_part : (p : TypePart) (r : List Token) → WfTypePart p → skip is_other (y_type_part p r) ≡ skip is_other r
skip_part p r w = skip_is k_colon refl p.colon _ w.colon ∙ skip_type p.type r w.type

skip_field : (f : FieldTree) (r : List Token) → WfField f → skip is_other (y_field f r) ≡ skip is_other r
skip_field f r w =
    skip_optionally ◌∷◌ (Is k_comment) (skip_is k_comment refl) f.comment _ w.comment
    ∙ skip_optionally ◌∷◌ (Passes is_rule) (skip_passes is_rule refl) f.rule _ w.rule
    ∙ skip_is k_identifier refl f.name _ w.name
    ∙ skip_optionally y_type_part WfTypePart skip_part f.type _ w.type
    ∙ skip_is k_equals refl f.equals _ w.equals
    ∙ skip_is k_integer refl f.index r w.index

skip_deleted : (p : DeletedPart) (r : List Token) → WfDeleted p → skip is_other (y_deleted p r) ≡ skip is_other r
skip_deleted p r w = skip_is k_deleted refl p.deleted _ w.deleted ∙ skip_each ◌∷◌ (Is k_integer) (skip_is k_integer refl) p.indices r w.indices

pub skip_body : (fs : List FieldTree) (d : Option DeletedPart) (z : Token) (r : List Token) → All WfField fs → IfAny WfDeleted d → Is k_right_curly z
    → skip is_other (each y_field fs (optionally y_deleted d (z ∷ r))) ≡ z ∷ r
skip_body fs d z r v w e = skip_each y_field WfField skip_field fs _ v ∙ skip_optionally y_deleted WfDeleted skip_deleted d (z ∷ r) w ∙ skip_right z r e
