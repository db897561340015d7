-- The laws of a writer: what it puts in parts it puts whole, nothing leaves it as it is, and what is left to put takes it to where all would.
use Rattle.std.proofs.Common.{◌≡◌, [], ◌++◌, refl, ◌∙◌, length}
use Rattle.wire.specs.Bytes.{Bytes}
use Rattle.wire.specs.Puts.{Puts}
use Rattle.wire.specs.declared.Writer.{Writer}
use Rattle.wire.proofs.Laws as wrote

-- nothing put
pub puts_none : {w : Writer} → Puts w [] w
puts_none = record { same = refl; wrote = wrote.wrote_none }

-- one after the other
pub then : {w : Writer} {a : Bytes} {w₁ : Writer} {b : Bytes} {w₂ : Writer} → Puts w a w₁ → Puts w₁ b w₂ → Puts w (a ++ b) w₂
then p q = record { same = q.same ∙ p.same; wrote = wrote.then p.wrote q.wrote }

-- the same, of bytes that the two parts make
pub parts : {w : Writer} {a : Bytes} {w₁ : Writer} {b : Bytes} {w₂ : Writer} {bs : Bytes} → Puts w a w₁ → Puts w₁ b w₂ → a ++ b ≡ bs → Puts w bs w₂
parts p q e = rw e at (then p q)

-- the buffer keeps its length
pub puts_length : {w : Writer} {bs : Bytes} {w' : Writer} → Puts w bs w' → length w'.out.now ≡ length w.out.now
puts_length p = wrote.wrote_length p.wrote

-- where bs is still to put by w, and w₀ would have put all
pub record Rest (w : Writer) (bs : Bytes) (w₀ : Writer) (all : Bytes) : Type 0 where
  pub same : w.out.ghost_name ≡ w₀.out.ghost_name
  pub rest : wrote.Rest w.out.now w.at bs w₀.out.now w₀.at all

pub rest_all : {w : Writer} {bs : Bytes} → Rest w bs w bs
rest_all = record { same = refl; rest = wrote.rest_all }

pub rest_step : {w : Writer} {a : Bytes} {w₁ : Writer} {b : Bytes} {w₀ : Writer} {bs all : Bytes} → Puts w a w₁ → Rest w bs w₀ all → bs ≡ a ++ b → Rest w₁ b w₀ all
rest_step p q e = record { same = p.same ∙ q.same; rest = wrote.rest_step p.wrote q.rest e }

pub rest_none : {w w₀ : Writer} {bs all : Bytes} → Rest w bs w₀ all → bs ≡ [] → Puts w₀ all w
rest_none q e = record { same = q.same; wrote = wrote.rest_none q.rest e }
