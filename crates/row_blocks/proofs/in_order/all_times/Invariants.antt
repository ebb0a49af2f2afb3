use Rattle.std.proofs.Common.{◌≡◌, ◌-◌, ◌<◌, take}
use Rattle.row_blocks.specs.Blocks.{rows_in, times_of}
use Rattle.row_blocks.specs.Live.{time_at}
use Rattle.row_blocks.proofs.in_order.all_times.Given as goal

abbrev pub invariant-loop-place : goal.invariant-loop-place
invariant-loop-place l = (l.times.items ≡ take l.place (times_of (rows_in l.block))) × (0 < l.place → l.time ≡ time_at l.block (l.place - 1))
