use Rattle.std.proofs.Common.{◌≡◌, ◌*◌, map, pos, slice_index_or}
use Rattle.std.specs.List.{range_with_len}
use Rattle.delta_codes.proofs.encode.anchors.Given as goal

abbrev pub invariant-loop-i : goal.invariant-loop-i
invariant-loop-i l = l.anchors.items ≡ map (λ k. slice_index_or l.values (64 * k) (pos 0)) (range_with_len 0 l.i)
