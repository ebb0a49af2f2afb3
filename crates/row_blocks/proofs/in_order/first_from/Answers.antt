use Rattle.std.proofs.Common.{◌≡◌, ◌+◌, ◌-◌, ◌/◌, arith, rules, true, false, int_le, slice_index_or, pos, of_z, to_z}
use Rattle.std.specs.Int.{w64}
use Rattle.row_blocks.proofs.Halves.{late_part, old_part}
use Rattle.row_blocks.proofs.in_order.first_from.Goals as goal

pub halves-preserved-then-horizon-sorted : goal.halves-preserved-then-horizon-sorted
halves-preserved-then-horizon-sorted c =
    let first = c.halves.first in let past = c.halves.end in let middle = first + (past - first) / 2 in
    let times = c.args.sorted.now in let h = to_z w64 (of_z w64 c.args.horizon) in
    let here : int_le h (slice_index_or times middle (pos 0)) ≡ true = search rules in
    late_part times h first past middle c.requires.order c.halves.invariant (omega arith) (omega (arith, c.halves-test.true)) here

pub halves-preserved : goal.halves-preserved
halves-preserved c =
    let first = c.halves.first in let past = c.halves.end in let middle = first + (past - first) / 2 in
    let times = c.args.sorted.now in let h = to_z w64 (of_z w64 c.args.horizon) in
    let here : int_le h (slice_index_or times middle (pos 0)) ≡ false = search rules in
    old_part times h first past middle c.requires.order c.halves.invariant (omega arith) (omega (arith, c.halves-test.true)) here
