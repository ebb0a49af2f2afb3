use Rattle.std.proofs.Common.{◌≡◌, ◌<◌, ◌++◌, ◌∷◌, [], ℤ, List, arith, rules, length, pos, of_z, to_z, FitsSigned, sym, ap, ap₂, ◌∙◌}
use Rattle.std.specs.Int.{w64}
use Rattle.std.proofs.lemmas.Int.{to_z-of_z}
use Rattle.std.proofs.lemmas.List.{take_all, take_more}
use Rattle.row_blocks.specs.Blocks.{rows_in, times_of}
use Rattle.row_blocks.specs.Live.{time_at}
use Rattle.row_blocks.proofs.LivePlaces.{counted_times}
use Rattle.row_blocks.proofs.in_order.all_times.Goals as goal

pub loop-place-preserved : goal.loop-place-preserved
loop-place-preserved c =
    let block = c.args.block.now in let place = c.loop-place.place in let times = times_of (rows_in block) in
    let fits : FitsSigned w64 c.walked_time-time.result = search rules in
    let time : to_z w64 (of_z w64 c.walked_time-time.result) ≡ time_at block place = to_z-of_z w64 _ fits ∙ c.walked_time-time.ensures in
    let inside : place < length times = omega (arith, c.loop-place-test.true, c.rows-place-end.ensures, counted_times block) in
    let pushed : c.push.new.self.items ≡ c.loop-place.times.items ++ to_z w64 (of_z w64 c.walked_time-time.result) ∷ [] = search rules in (
      pushed ∙ ap₂ (λ (xs : List ℤ) (x : ℤ). xs ++ x ∷ []) c.loop-place.invariant.0 time ∙ sym (take_more times place (pos 0) inside),
      λ some. time ∙ ap (time_at block) (omega arith),
    )

pub returns : goal.returns
returns c =
    let block = c.args.block.now in let times = times_of (rows_in block) in
    c.loop-place.invariant.0 ∙ take_all c.loop-place.place times (omega (arith, c.loop-place-test.false, c.rows-place-end.ensures, counted_times block))
