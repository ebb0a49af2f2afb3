use Rattle.std.proofs.Common.{◌≡◌, ℕ, ◌<◌, length, None, option_map, slice_index_or, take}
use Rattle.leaf_model.specs.Lent.{lent_value}
use Rattle.row_blocks.specs.Runs.{last_value, row_cells}
use Rattle.row_blocks.proofs.runs.lend_run.Given as goal

abbrev pub invariant-loop-placed : goal.invariant-loop-placed
invariant-loop-placed l = record {
  same : length l.values ≡ length l.fn.values;
  lent : (i : ℕ) → i < length l.fn.values → option_map lent_value (slice_index_or l.values i None) ≡ last_value (row_cells i (take l.placed-index l.cells));
}
