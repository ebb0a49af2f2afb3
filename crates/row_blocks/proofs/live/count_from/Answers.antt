use Rattle.std.proofs.Common.{rules, ◌≡◌, to_z, of_z, ℤ, int_le, length, ap, ◌∙◌, arith, FitsSigned}
use Rattle.std.specs.Int.{w64}
use Rattle.std.proofs.lemmas.Int.{to_z-of_z}
use Rattle.row_blocks.specs.Held.{live_rows}
use Rattle.row_blocks.specs.Live.{time_at}
use Rattle.row_blocks.proofs.LivePlaces.{count_end, count_next}
use Rattle.row_blocks.proofs.Standing.{one_at_most}
use Rattle.row_blocks.proofs.live.count_from.Goals as goal

pub loop-place-preserved : goal.loop-place-preserved
loop-place-preserved c =
    let h = to_z w64 (of_z w64 c.args.horizon) in
    let place = c.loop-place.place in let block = c.args.block.now in
    let fits : FitsSigned w64 c.walked_time-time.result = search rules in
    let time : to_z w64 (of_z w64 c.walked_time-time.result) ≡ time_at block place = to_z-of_z w64 _ fits ∙ c.walked_time-time.ensures in
    let late = int_le h (to_z w64 (of_z w64 c.walked_time-time.result)) in
    record {
      counted = count_next block h place c.loop-place.live c.from-live.result _ late (omega (arith, c.loop-place-test.true, c.rows-place-end.ensures)) c.loop-place.invariant.counted c.from-live.ensures (ap (int_le h) time);
      few = omega (arith, c.loop-place.invariant.few, c.from-live.ensures, one_at_most late);
      before = λ some. time ∙ ap (time_at block) (omega arith);
    }

pub returns : goal.returns
returns c =
    let h = to_z w64 (of_z w64 c.args.horizon) in
    count_end c.args.block.now h c.loop-place.place c.loop-place.live (length (live_rows c.args.skip h c.args.block.now)) (omega (arith, c.loop-place-test.false, c.rows-place-end.ensures)) c.loop-place.invariant.counted
    ∙ ap (λ (t : ℤ). length (live_rows c.args.skip t c.args.block.now)) (to_z-of_z w64 c.args.horizon c.ranges.horizon)
