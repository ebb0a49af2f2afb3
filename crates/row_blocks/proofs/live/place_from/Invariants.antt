use Rattle.std.proofs.Common.{◌≡◌, ◌-◌, ◌<◌, length, drop}
use Rattle.row_blocks.specs.Held.{live_rows}
use Rattle.row_blocks.specs.Live.{time_at}
use Rattle.row_blocks.proofs.live.place_from.Given as goal

abbrev pub invariant-loop-place : goal.invariant-loop-place
invariant-loop-place l = record {
  some : l.left < length (live_rows l.place l.horizon l.block);
  same : drop l.left (live_rows l.place l.horizon l.block) ≡ drop l.n (live_rows l.skip l.horizon l.block);
  before : l.skip < l.place → l.time ≡ time_at l.block (l.place - 1);
}
