use Rattle.std.proofs.Common.{rules, ◌≡◌, ℤ, of_z, pos, slice_index_or, to_z, ◌∙◌}
use Rattle.std.specs.Int.{w64}
use Rattle.time_range.proofs.Passing.{one_passed}
use Rattle.time_range.proofs.times.range_of.Goals as goal

pub loop-time-preserved : goal.loop-time-preserved
loop-time-preserved c =
    let time : ℤ = slice_index_or c.args.times.now c.loop-time.time-index (pos 0) in
    let read : to_z w64 (of_z w64 time) ≡ time = search rules in
    let low : to_z w64 (of_z w64 c.min-from.result) ≡ c.min-from.result = search rules in
    let high : to_z w64 (of_z w64 c.max-to.result) ≡ c.max-to.result = search rules in
    one_passed c.args.times.now c.loop-time.time-index (to_z w64 c.loop-time.from-bits) (to_z w64 c.loop-time.to-bits) c.loop-time.in_order _ _ _ c.loop-time-test.true c.loop-time.invariant read
    (low ∙ c.min-from.ensures.value) (high ∙ c.max-to.ensures.value)
