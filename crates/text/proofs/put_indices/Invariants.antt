-- `text::put_indices` meets its contract.
use mathlib.Core.Path.{◌≡◌}
use mathlib.Core.List.{flat_map}
use Rattle.wire.proofs.Puts.{Rest}
use Rattle.schema.specs.Payload.{indices_of}
use Rattle.text.specs.Text.{index_text}
use Rattle.text.proofs.put_indices.Given as goal

abbrev pub invariant-loop-index : goal.invariant-loop-index
invariant-loop-index l = record {
  size : l.index-iterator.size ≡ 8;
  left : Rest l.w (flat_map index_text (indices_of l.index-iterator.rest.now)) l.initial.w (flat_map index_text (indices_of l.p));
}
