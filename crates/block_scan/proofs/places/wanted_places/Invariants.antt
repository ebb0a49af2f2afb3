use Rattle.std.proofs.Common.{◌≡◌, ◌-◌, pos, slice_index_or}
use Rattle.std.specs.Prelude.{filter}
use Rattle.std.specs.List.{range_with_len}
use Rattle.block_scan.specs.Reads.{is_wanted}
use Rattle.block_scan.proofs.places.wanted_places.Given as goal

abbrev pub invariant-loop-place : goal.invariant-loop-place
invariant-loop-place l = l.places.items ≡ filter (λ i. is_wanted l.query l.horizon (slice_index_or l.times i (pos 0))) (range_with_len l.skip (l.place - l.skip))
