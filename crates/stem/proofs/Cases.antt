-- Document 01's examples of a stem, computed.
use mathlib.Core.Path.{◌≡◌, refl}
use mathlib.Core.List.{[]}
use Rattle.wire.specs.Bytes.{bytes}
use Rattle.wire.specs.Pick.{pick}
use Rattle.stem.specs.Stem.{last_part, is_parent, cut, stem_of}

op : stem_of (bytes "b/op.t") ≡ bytes "op"
unfolding stem_of last_part is_parent cut pick
op = refl

dot_t : stem_of (bytes ".t") ≡ bytes ".t"
unfolding stem_of last_part is_parent cut pick
dot_t = refl

parent : stem_of (bytes "a/..") ≡ []
unfolding stem_of last_part is_parent cut pick
parent = refl
