-- The parts of a schema whose reading has no errors, and the whole of it written.
use Prim.Native.Nat.{ℕ, ◌≤◌}
use mathlib.Core.Path.{◌≡◌, refl, ap}
use mathlib.Core.List.{List, [], ◌∷◌}
use native.Mathlib.Omega.{arith}
use lib.ListN.{length}
use Rattle.wire.specs.Bytes.{Bytes}
use Rattle.wire.specs.Puts.{Puts}
use Rattle.wire.specs.declared.Writer.{Writer}
use Rattle.wire.proofs.Puts.{then}
use Rattle.token.specs.Token.{Token}
use Rattle.token.specs.Places.{tokens_from}
use Rattle.schema.specs.Encode.{encode_comment, encode_schema}
use Rattle.grammar.specs.Tree.{y_import, All}
use Rattle.grammar.specs.Meaning.{comment_of, schema_of}
use Rattle.grammar.specs.Error.{Error}
use Rattle.grammar.specs.Reading.{parse_declarations, parse_end, parse_schema}
use Rattle.grammar.proofs.Rules.{cons≢nil, both_nil}
use Rattle.grammar.proofs.Eats.{each_keeps, import_eats}
use Rattle.grammar.proofs.Imports.{imports_sound}
use Rattle.parser.specs.Trees.{token_there}
use Rattle.parser.specs.Steps.{ahead}
use Rattle.places.specs.Imports.{Room, NamedHere}
use Rattle.places.specs.declared.Ordered.{Ordered}
use Rattle.places.proofs.Orders.{orders_rest, orders_each, orders_sorted}
use Rattle.imports.specs.Imports.{last_end, imports_from, Clear, imports_at}
use Rattle.emit.specs.Emits.{declarations_from, declarations_bytes, Readable}

end_none : (es : List Error) (ts : List Token) → parse_end es ts ≡ [] → es ≡ []
end_none [] ts h = refl
end_none (e ∷ es) ts h = absurd (cons≢nil h)

module _ {t : Bytes} {imports : List ℕ} {order : Ordered} {items spare : List ℕ} (h : Readable t imports order items spare) where
  none_told : ((imports_from t order.from).errors ≡ []) × ((parse_declarations (length (imports_from t order.from).rest) (last_end t)
      (imports_from t order.from).rest).errors ≡ [])
  none_told = both_nil (imports_from t order.from).errors _ (end_none _ _ (rw h.orders.opening.read at h.errors))

  rest : (imports_from t order.from).rest ≡ ahead t order.next
  rest = orders_rest h.orders (last_end t)

  pub named_here : All (NamedHere t) imports
  named_here = orders_each h.orders (last_end t) none_told.0

  pub declarations_clear : Clear t order.next (declarations_from t order.next)
  declarations_clear = record { wf = h.orders.wf; errors = rw rest at none_told.1 }

  less : length (ahead t order.next) ≤ length (tokens_from t 0)
  less =
      let R = imports_from t order.from in
      let s = imports_sound (length (ahead t order.from)) (last_end t) [] (ahead t order.from) none_told.0 in
      omega (
        arith,
        ap length rest,
        ap length s.read.0,
        each_keeps y_import (λ i r. omega (arith, import_eats i r)) R.value R.rest,
        h.orders.opening.short,
      )

  pub declarations_room : Room (ahead t order.next) items spare
  declarations_room = record { list = omega (arith, less, h.room.list); work = omega (arith, less, h.room.work) }

  pub schema_put : {w w₁ w₂ w₃ : Writer} → Puts w (encode_comment (comment_of (token_there t order.comment))) w₁ → Puts w₁ (imports_at t imports) w₂
      → Puts w₂ (declarations_bytes (declarations_from t order.next).value) w₃
      → Puts w (encode_schema (schema_of (parse_schema (tokens_from t 0)).value)) w₃
  unfolding encode_schema
  schema_put x y z = rw h.orders.opening.read (then (then x (rw (orders_sorted h.orders (last_end t) none_told.0) at y)) (rw (← rest) at z))
