use Rattle.std.proofs.Common.{ℕ, ℤ, arith, length, of_z, to_z, sym, ap, ◌∙◌}
use Rattle.std.specs.Int.{w64}
use Rattle.std.proofs.lemmas.Int.{to_z-of_z}
use Rattle.std.proofs.lemmas.List.Sorted.{length_permutation}
use Rattle.row_blocks.specs.Blocks.{rows_in, times_of}
use Rattle.row_blocks.specs.Held.{live_rows}
use Rattle.row_blocks.proofs.Halves.{sorted_counted}
use Rattle.row_blocks.proofs.LivePlaces.{counted_times}
use Rattle.row_blocks.proofs.live.count_out_of_order.Goals as goal

pub overflow_cast-result : goal.overflow_cast-result
overflow_cast-result c =
    let block = c.args.block.now in
    let long = length_permutation (times_of (rows_in block)) c.in-Some.sorted.now c.in-Some.ensures.0 in
    omega (arith, long, counted_times block, c.is_block.ensures.few)

pub returns-in-Some : goal.returns-in-Some
returns-in-Some c =
    let block = c.args.block.now in let h = to_z w64 (of_z w64 c.args.horizon) in
    let same = to_z-of_z w64 c.args.horizon c.ranges.horizon in
    sorted_counted block h c.in-Some.sorted.now c.first_from.result c.in-Some.ensures.0 c.first_from.ensures
    ∙ ap (λ (t : ℤ). length (live_rows 0 t block)) same
    ∙ ap (λ (n : ℕ). length (live_rows n c.args.horizon block)) (sym c.if-skip-eq0.true)
