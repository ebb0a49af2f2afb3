use Rattle.std.proofs.Common.{rules, ◌≡◌, to_z, of_z, int_le, ap, arith, ◌∙◌, FitsSigned}
use Rattle.std.specs.Int.{w64}
use Rattle.std.proofs.lemmas.Int.{to_z-of_z}
use Rattle.row_blocks.specs.Live.{time_at}
use Rattle.row_blocks.proofs.LivePlaces.{none_past, place_next}
use Rattle.row_blocks.proofs.live.place_from.Goals as goal

pub loop-place-preserved : goal.loop-place-preserved
loop-place-preserved c =
    let h = to_z w64 (of_z w64 c.args.horizon) in
    let place = c.loop-place.place in let block = c.args.block.now in
    let fits : FitsSigned w64 c.walked_time-time.result = search rules in
    let time : to_z w64 (of_z w64 c.walked_time-time.result) ≡ time_at block place = to_z-of_z w64 _ fits ∙ c.walked_time-time.ensures in
    let late = int_le h (to_z w64 (of_z w64 c.walked_time-time.result)) in
    let next = place_next block h place c.loop-place.left c.from-left.result late (omega (arith, c.loop-place-test.true, c.rows-place-end.ensures)) (omega (arith, c.if-left-eq0.false)) c.loop-place.invariant.some c.from-left.ensures (ap (int_le h) time) in
    record { some = next.0; same = next.1 ∙ c.loop-place.invariant.same; before = λ some. time ∙ ap (time_at block) (omega arith) }

pub unreachable-requires : goal.unreachable-requires
unreachable-requires c =
    let h = to_z w64 (of_z w64 c.args.horizon) in
    none_past c.args.block.now h c.loop-place.place c.loop-place.left (omega (arith, c.loop-place-test.false, c.rows-place-end.ensures)) c.loop-place.invariant.some
