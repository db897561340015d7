-- `text::put_plain` meets its contract: a number that is no kind's is no plain kind's.
use Rattle.std.proofs.Common.{ℕ, ◌≡◌, ◌<◌, arith}
use mathlib.Core.Logic.{◌⊎◌}
use borrow.Author.Tests.{ne_eqb}
use Rattle.wire.specs.Bytes.{bytes}
use Rattle.wire.specs.Pick.{pick}
use Rattle.text.specs.Text.{plain_text}
use Rattle.text.proofs.put_plain.Goals as goal

unknown_text : (k : ℕ) → (k ≡ 0) ⊎ (25 < k) → plain_text k ≡ bytes "Unit"
unfolding plain_text pick
unknown_text k h =
    rw (
      ne_eqb k 3 (λ e. omega arith),
      ne_eqb k 4 (λ e. omega arith),
      ne_eqb k 11 (λ e. omega arith),
      ne_eqb k 21 (λ e. omega arith),
      ne_eqb k 22 (λ e. omega arith),
      ne_eqb k 24 (λ e. omega arith),
    )

pub returns-in-Err : goal.returns-in-Err
returns-in-Err c = rw (unknown_text c.args.kind c.in-Err.ensures.1) c.put_slice.ensures
