-- Nothing is told as an empty schema, and what is read as one stands in its buffer.
use Rattle.std.proofs.Common.{◌≡◌, ℕ, ◌≤◌, refl, sym, ap, ◌∙◌, arith, length, drop, Result, Ok}
use lib.ListN.{length-append}
use Rattle.wire.specs.Bytes.{Bytes}
use Rattle.wire.specs.declared.Refused.{Refused}
use Rattle.grammar.specs.Answer.{read_answer, buffer_after}
use Rattle.grammar.specs.Answer as reading
use Rattle.reader.specs.Answers.{Answers, Told as Answered, told, numbered}
use Rattle.reader.specs.declared.Answer.{Answer}
use Rattle.reader.specs.declared.Answer.TheVariants.{Schema}
use Rattle.reader.proofs.Laws.{nothing_read}
use Rattle.typical.specs.Returned.{Returns, read_status, read_value}

pub nothing_told : {t : Bytes} (o : Bytes) → length t ≡ 0 → Returns (Answers t o o) read_status read_value 0 0
nothing_told o z = record { answer = Ok (Schema 0); promised = nothing_read o z; status_is = refl; value_is = refl }

stands : (a : reading.Answer) (before : Bytes) {n : ℕ} → told a ≡ Answered.schema n → n ≤ length (buffer_after before a)
stands (reading.Answer.refusal m p) before e = let z : ◌≡◌ {A = ℕ} 0 1 = cc in absurd (omega arith)
stands (reading.Answer.errors bs) before e = let z : ◌≡◌ {A = ℕ} 0 1 = cc in absurd (omega arith)
stands (reading.Answer.schema bs) before {n} e = let f : length bs ≡ n = cc in omega (arith, length-append bs (drop (length bs) before))

pub schema_stands : {t schema schema' : Bytes} {r : Result Answer Refused} {n : ℕ} → Answers t schema schema' r → r ≡ Ok (Schema n) → n ≤ length schema'
schema_stands {t} {schema} w e = rw w.buffer (stands (read_answer t (length schema)) schema (sym w.answer ∙ ap numbered e))
