-- `text::put_custom` meets its contract.
use Rattle.std.proofs.Common.{◌≡◌, ◌∙◌, sym, [], ◌∷◌, ◌++◌, length, refl, true, false, eqb, arith}
use borrow.Author.Tests.{eqb-true}
use Rattle.wire.specs.Bytes.{Bytes, bytes}
use Rattle.wire.proofs.Puts.{then}
use Rattle.schema.specs.Decode.{optional}
use Rattle.identifier.specs.Forms.{snake_of, pascal_of}
use Rattle.text.specs.Text.{custom_text}
use Rattle.text.proofs.put_custom.Goals.{then-not-is_empty, else-not-is_empty}
use Rattle.text.proofs.put_custom.Goals as goal

named : (import name : Bytes) → eqb (length import) 0 ≡ false → custom_text (optional import) name ≡ snake_of import ++ bytes "." ++ pascal_of name
named [] name e = cc
named (b ∷ import) name e = refl

nameless : (import name : Bytes) → eqb (length import) 0 ≡ true → custom_text (optional import) name ≡ pascal_of name
nameless [] name e = refl
nameless (b ∷ import) name e = absurd (omega (arith, eqb-true _ _ e))

pub returns : goal.returns
returns c =
    elim c.if-not-is_empty.branch [
      | then-not-is_empty w ↦
          rw (named c.args.import.now c.args.name.now (sym c.is_empty.ensures ∙ w.if-not-is_empty.true))
          (then (then w.put_snake.ensures w.put_byte.ensures) (rw w.w-is at c.put_pascal.ensures))
      | else-not-is_empty w ↦
          rw (nameless c.args.import.now c.args.name.now (sym c.is_empty.ensures ∙ w.if-not-is_empty.false)) (rw w.w-is at c.put_pascal.ensures)
    ]
