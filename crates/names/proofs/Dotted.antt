-- The text of a namespace, name by name: a `.` before each but the first, then its snake form.
use mathlib.Core.Path.{◌≡◌, ap, sym, ◌∙◌}
use mathlib.Core.Bool.{true}
use mathlib.Core.List.{List, [], ◌∷◌}
use Rattle.wire.specs.Bytes.{Bytes}
use Rattle.wire.specs.Puts.{Puts}
use Rattle.wire.specs.declared.Writer.{Writer}
use Rattle.wire.proofs.Puts.{Rest, rest_all, rest_step, rest_none, then, puts_none}
use Rattle.identifier.specs.Forms.{snake_of}
use Rattle.names.specs.Namespace.{is_namespace, dotted, joined_by_dots, text_of}
use Rattle.names.specs.Whole.{whole_of}
use Rattle.names.proofs.Walk.{names_whole}

-- the names that are left are still to be put, each after a `.`
abbrev pub Texted : List Bytes → Writer → Writer → Bytes → Type 0
Texted left w w₀ all = Rest w (dotted left) w₀ all

text_is : (ns : Bytes) {names : List Bytes} → is_namespace ns ≡ true → whole_of ns ≡ names → text_of ns ≡ joined_by_dots names
unfolding text_of
text_is ns e f = ap joined_by_dots (sym (names_whole ns e) ∙ f)

module _ (ns : Bytes) (e : is_namespace ns ≡ true) where
  pub no_text : {w : Writer} → whole_of ns ≡ [] → Puts w (text_of ns) w
  no_text f = rw (text_is ns e f) puts_none

  pub begun : {first : Bytes} {left : List Bytes} {w w₀ : Writer} → whole_of ns ≡ first ∷ left → Puts w₀ (snake_of first) w → Texted left w w₀ (text_of ns)
  begun f p = rest_step p rest_all (text_is ns e f)

module _ {names : List Bytes} {w w₀ : Writer} {all : Bytes} (g : Texted names w w₀ all) where
  pub next : {name : Bytes} {left : List Bytes} {w₁ w₂ : Writer} → names ≡ name ∷ left → Puts w (46 ∷ []) w₁ → Puts w₁ (snake_of name) w₂
      → Texted left w₂ w₀ all
  next f u v = rest_step (then u v) g (ap dotted f)

  pub ended : names ≡ [] → Puts w₀ all w
  ended f = rest_none g (ap dotted f)
