-- The theorems on document 01's "Names". Each is stated here, and proved in the file that its proof cites.
use mathlib.Core.Path.{◌≡◌, refl}
use mathlib.Core.Bool.{true, false}
use mathlib.Core.List.{[], ◌∷◌, ◌++◌}
use mathlib.Core.Logic.{◌↔◌}
use Prim.Native.Nat.{◌≤◌}
use native.Mathlib.Omega.{arith}
use lib.ListN.{length}
use Rattle.wire.specs.Bytes.{Bytes, bytes}
use Rattle.wire.specs.Pick.{pick}
use Rattle.identifier.specs.Byte.{is_upper, lower_of, upper_of}
use Rattle.identifier.specs.Name.{all}
use Rattle.identifier.specs.Words.{words_of}
use Rattle.identifier.specs.Forms.{snake_of, camel_of, pascal_of}
use Rattle.identifier.specs.Order.{name_order, is_before, same_name}
use Rattle.identifier.specs.Join.{join_of}
use Rattle.identifier.specs.Survive.{survives, later_begin}
use Rattle.std.specs.declared.cmp.Ordering.TheVariants.{Less, Equal}
use Rattle.identifier.proofs.Words.{words_join}
use Rattle.identifier.proofs.Length.{snake_short, camel_short, pascal_short, capitals_long}
use Rattle.identifier.proofs.Total.{flip, order_refl, order_flip, order_zero, order_trans}
use Rattle.identifier.proofs.Survival.{survives_exactly}

-- a name survives printing exactly when every word after its first begins with a letter
pub survival : (name : Bytes) → survives name ≡ later_begin (words_of name)
survival = survives_exactly

-- the order is total on snake forms: of two names one is less or they are equal, as seen from either side, and less goes on
pub ordered : (a b c : Bytes) → (name_order b a ≡ flip (name_order a b)) × (name_order a b ≡ Less → name_order b c ≡ Less → name_order a c ≡ Less)
unfolding name_order
ordered a b c = (order_flip (snake_of a) (snake_of b), order_trans (snake_of a) (snake_of b) (snake_of c))

-- and equality is its zero
pub equality : (a b : Bytes) → name_order a b ≡ Equal ↔ snake_of a ≡ snake_of b
unfolding name_order
equality a b = (order_zero (snake_of a) (snake_of b), λ e. rw (e, order_refl (snake_of b)))

-- a joined name's words are the words of the two
pub joining : (a b : Bytes) → words_of (join_of a b) ≡ words_of a ++ words_of b
joining = words_join

-- 256 bytes hold every form of a name, and a name of 128 capitals comes within one of them
pub forms_fit : (name : Bytes) → length name ≤ 128 → (length (snake_of name) ≤ 255) × (length (camel_of name) ≤ 255) × (length (pascal_of name) ≤ 255)
forms_fit name h = (omega (arith, snake_short name), omega (arith, camel_short name), omega (arith, pascal_short name))

pub capitals : (name : Bytes) → all is_upper name ≡ true → length name ≡ 128 → length (snake_of name) ≡ 255
capitals name e h = omega (arith, capitals_long name e)

-- the document's examples
http_port : snake_of (bytes "HTTPPort") ≡ bytes "h_t_t_p_port"
unfolding snake_of lower_of pick
http_port = refl

foo_1 : (pascal_of (bytes "foo_1") ≡ bytes "Foo1") × (survives (bytes "foo_1") ≡ false)
unfolding survives same_name name_order snake_of pascal_of lower_of upper_of pick
foo_1 = (refl, refl)

no_words : (snake_of (bytes "_") ≡ []) × (camel_of (bytes "_") ≡ []) × (pascal_of (bytes "_") ≡ [])
unfolding snake_of camel_of pascal_of lower_of upper_of pick
no_words = (refl, refl, refl)

-- opTable and op_table are one import name
op_table : same_name (bytes "opTable") (bytes "op_table") ≡ true
unfolding same_name name_order snake_of lower_of pick
op_table = refl

-- U+FFFD, the name of an import without a stem, is ordered like any other: behind every ASCII name
no_stem : is_before (bytes "zeta") (0xEF ∷ 0xBF ∷ 0xBD ∷ []) ≡ true
unfolding is_before name_order snake_of lower_of pick
no_stem = refl
