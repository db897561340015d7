-- The records of a framed table are written back as they were read, and their numbers fit.
use mathlib.Core.Path.{◌≡◌, refl, sym, ◌∙◌}
use mathlib.Core.Bool.{true}
use mathlib.Core.List.{[], ◌∷◌}
use Prim.Native.Nat.{ℕ, zero, suc, ◌-◌, ◌≤◌}
use native.Mathlib.Omega.{arith}
use lib.ListN.{length, drop, length-take, length-drop}
use Rattle.wire.specs.Bytes.{Bytes}
use Rattle.wire.proofs.Numbers.{AllBytes}
use Rattle.token.specs.Table.{size_of, token_of, encode_tokens}
use Rattle.schema.specs.Limits.{Each}
use Rattle.schema.specs.Table.{records_of, is_framed}
use Rattle.schema.proofs.Records.{Whole, records_step, framed_step, framed_whole}
use Rattle.schema.proofs.Parts.{le_at_small}
use Rattle.token.proofs.Encode.{record_again}
use Rattle.token.proofs.Paragraphs.{all_take, all_drop}
use Rattle.schema.proofs.WriteBack.{Read}

module _ (t : Bytes) (w : Whole t) (a : AllBytes t) where
  payload_length : length (token_of t).payload ≡ size_of t - 12
  unfolding token_of
  payload_length = let h = w.tail in length-take (size_of t - 12) (drop 12 t) ∙ simp length-drop (omega arith)

  token_read : Read (token_of t)
  unfolding token_of
  token_read =
      let l = payload_length in
      let h = w.head in
      let k = w.tail in
      let s = le_at_small 2 t 0 a (omega arith) in
      record {
        fits = record {
          kind = le_at_small 2 t 2 a (omega arith);
          start = le_at_small 4 t 4 a (omega arith);
          end = le_at_small 4 t 8 a (omega arith);
          size = omega arith;
        };
        bytes = all_take (size_of t - 12) (drop 12 t) (all_drop 12 t a);
      }

-- a framed table
pub record Back (t : Bytes) : Type 0 where
  pub back : encode_tokens (records_of t) ≡ t
  pub read : Each Read (records_of t)

back_none : Back []
unfolding records_of encode_tokens
back_none = record { back = refl; read = tt }

back_from : (n : ℕ) (t : Bytes) → length t ≤ n → AllBytes t → is_framed t ≡ true → Back t
unfolding encode_tokens
back_from zero [] h a e = back_none
back_from (suc n) [] h a e = back_none
back_from zero (b ∷ bs) h a e = absurd (omega arith)
back_from (suc n) (b ∷ bs) h a e =
    let t = b ∷ bs in
    let w = framed_whole t (omega arith) e in
    let i = w.head in
    let r = back_from n (drop (size_of t) t) (rw length-drop (omega arith)) (all_drop (size_of t) t a) (sym (framed_step t w) ∙ e) in
    record {
      back = rw (records_step t w, r.back) (record_again t a w);
      read = rw (records_step t w) (token_read t w a, r.read);
    }

pub records_back : (t : Bytes) → AllBytes t → is_framed t ≡ true → Back t
records_back t a e = back_from (length t) t (omega arith) a e
