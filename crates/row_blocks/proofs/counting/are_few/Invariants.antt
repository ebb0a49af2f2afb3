use Rattle.std.proofs.Common.{◌≡◌, ℕ, ◌<◌, ◌≤◌, length, slice_index, take}
use Rattle.row_blocks.specs.Blocks.{cells_at}
use Rattle.row_blocks.proofs.counting.are_few.Given as goal

abbrev pub invariant-loop-k : goal.invariant-loop-k
invariant-loop-k l = record {
  long : length l.counts ≡ l.rows;
  counted : (i : ℕ) → i < l.rows → slice_index l.counts i ≡ length (cells_at i (take l.k l.columns));
  few : (i : ℕ) → i < l.rows → slice_index l.counts i ≤ 1024;
}
