use Rattle.std.proofs.Common.{◌≡◌, ◌≤◌, length, take}
use Rattle.row_blocks.specs.Blocks.{cells_at}
use Rattle.row_blocks.proofs.places.count_at.Given as goal

abbrev pub invariant-loop-k : goal.invariant-loop-k
invariant-loop-k l = record {
  counted : l.count ≡ length (cells_at l.i (take l.k l.columns));
  few : l.count ≤ l.k;
}
