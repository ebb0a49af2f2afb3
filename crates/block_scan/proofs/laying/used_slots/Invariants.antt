use Rattle.std.proofs.Common.{◌≡◌, filter, map}
use Rattle.std.specs.List.{range_with_len}
use Rattle.block_scan.specs.Slots.{is_used, list_at, lists_in}
use Rattle.block_scan.proofs.laying.used_slots.Given as goal

abbrev pub invariant-loop-slot : goal.invariant-loop-slot
invariant-loop-slot l = map (λ u. u.1) l.used.items ≡ filter (λ s. is_used (list_at (lists_in l.lists) s)) (range_with_len 0 l.slot)
