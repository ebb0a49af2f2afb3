use Rattle.std.proofs.Common.{◌≡◌, ℕ, ◌<◌, vec_len, Some, None, option_map, slice_index_or, pos}
use Rattle.row_model.specs.declared.rows.Value.{Value}
use Rattle.row_model.specs.declared.rows.Value.TheVariants.{Int}
use Rattle.leaf_model.specs.Lent.{lent_value}
use Rattle.column_bytes.proofs.integers.integers_of.Given as goal

abbrev pub invariant-loop-cell : goal.invariant-loop-cell
invariant-loop-cell l = record {
  same : vec_len l.integers ≡ l.cell-index;
  each : (i : ℕ) (value : Value) → i < l.cell-index → option_map lent_value (slice_index_or l.cells i None) ≡ Some value → value ≡ Int (slice_index_or l.integers.items i (pos 0));
}
