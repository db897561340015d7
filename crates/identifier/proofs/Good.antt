-- A good name is short enough for a form.
use mathlib.Core.Path.{◌≡◌}
use mathlib.Core.Bool.{true, and-eq-true_iff}
use Prim.Native.Nat.{◌≤◌}
use lib.Dec.{leb}
use lib.ListN.{length}
use borrow.Author.Tests.{leb-true}
use Rattle.wire.specs.Bytes.{Bytes}
use Rattle.identifier.specs.Byte.{within, is_printable}
use Rattle.identifier.specs.Name.{all, is_name}

pub name_short : (name : Bytes) → is_name name ≡ true → length name ≤ 128
unfolding is_name
name_short name e =
    let sized : within 1 128 (length name) ≡ true = ((and-eq-true_iff (within 1 128 (length name)) (all is_printable name)).0 e).0 in
    leb-true (length name) 128 ((and-eq-true_iff (leb 1 (length name)) (leb (length name) 128)).0 sized).1
