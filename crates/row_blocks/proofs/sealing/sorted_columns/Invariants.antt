use Rattle.std.proofs.Common.{◌≡◌, ◌-◌, ◌≤◌, drop, length}
use Rattle.leaf_model.specs.Lent.{lent_rows}
use Rattle.row_blocks.specs.Runs.{AreLeft}
use Rattle.row_blocks.proofs.sealing.sorted_columns.Given as goal

abbrev pub invariant-loop-from : goal.invariant-loop-from
invariant-loop-from l = record {
  within : l.from ≤ length l.cells;
  same : length l.values ≡ length (lent_rows l.rows);
  left : AreLeft (lent_rows l.rows) l.columns.items (drop l.from l.cells);
}

abbrev pub decreases-loop-from : goal.decreases-loop-from
decreases-loop-from l = length l.cells - l.from
