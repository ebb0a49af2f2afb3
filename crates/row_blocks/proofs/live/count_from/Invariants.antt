use Rattle.std.proofs.Common.{◌≡◌, ◌+◌, ◌-◌, ◌<◌, ◌≤◌, length}
use Rattle.row_blocks.specs.Held.{live_rows}
use Rattle.row_blocks.specs.Live.{time_at}
use Rattle.row_blocks.proofs.live.count_from.Given as goal

abbrev pub invariant-loop-place : goal.invariant-loop-place
invariant-loop-place l = record {
  counted : l.live + length (live_rows l.place l.horizon l.block) ≡ length (live_rows l.skip l.horizon l.block);
  few : l.live ≤ l.place;
  before : l.skip < l.place → l.time ≡ time_at l.block (l.place - 1);
}
