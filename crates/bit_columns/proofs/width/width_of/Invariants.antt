use Rattle.std.proofs.Common.{ℕ, ◌≤◌, ◌<◌, ◌^◌, slice_index}
use Rattle.bit_columns.proofs.width.width_of.Given as goal

abbrev pub invariant-loop-value : goal.invariant-loop-value
invariant-loop-value l = record {
  within : (k : ℕ) → k < l.value-index → slice_index l.values k ≤ l.ones;
  least : (width : ℕ) → ((k : ℕ) → k < l.value-index → slice_index l.values k < 2 ^ width) → l.ones < 2 ^ width;
}
