-- What a cursor shows of the tokens ahead.
use Prim.Native.Nat.{ℕ, ◌≤◌, ◌<◌}
use mathlib.Core.Path.{◌≡◌}
use mathlib.Core.Bool.{Bool, true, false}
use mathlib.Core.List.{List, []}
use native.Mathlib.Omega.{arith}
use lib.Dec.{eqb}
use lib.ListN.{length}
use borrow.Author.Tests.{eqb-true, eqb-false}
use Rattle.wire.specs.Bytes.{Bytes}
use Rattle.token.specs.Places.{tokens_from, Wf}
use Rattle.grammar.specs.Error.{kind_at}
use Rattle.parser.specs.Steps.{ahead, Stands, Stepped}
use Rattle.parser.specs.declared.Cursor.{Cursor}
use Rattle.parser.proofs.Laws.{inside, none_left, some_kind}
use Rattle.judge.specs.Judges.{Room}

-- no token, or one
module _ {t : Bytes} {at : ℕ} (w : Wf t at) where
  pub none_ahead : eqb (kind_at (tokens_from t at)) 0 ≡ true → tokens_from t at ≡ []
  none_ahead e = none_left t at w (eqb-true _ _ e)

  pub some_ahead : eqb (kind_at (tokens_from t at)) 0 ≡ false → Stands t at
  some_ahead e = (w, inside t at (let n = eqb-false _ _ e in omega arith))

  -- of a kind that the end hasn't
  pub stands : (test : ℕ → Bool) → test 0 ≡ false → test (kind_at (tokens_from t at)) ≡ true → Stands t at
  stands test n e = (w, inside t at (some_kind test _ n e))

-- fewer tokens are ahead past one
pub token_less : {t : Bytes} {c d : Cursor} → Stepped t c d → length (ahead t d) < length (ahead t c)
token_less s = rw s.first (omega arith)

-- room for the places of what is left
pub room_left : {t : Bytes} {c d : Cursor} {items spare items' spare' : List ℕ} → Room t c items spare → Wf t d.at → length (ahead t d) ≤ length (ahead t c)
    → length items' ≡ length items → length spare' ≡ length spare → Room t d items' spare'
room_left r w l x y = record { wf = w; places = omega (arith, r.places, l, x); work = omega (arith, r.work, l, y) }
