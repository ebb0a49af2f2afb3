use Rattle.std.proofs.Common.{to_z, of_z, pos, slice_index_or}
use Rattle.std.specs.Int.{w64}
use Rattle.block_scan.specs.Reads.{is_wanted}
use Rattle.block_scan.proofs.Cells.{places_more}
use Rattle.block_scan.proofs.places.wanted_places.Goals as goal

pub loop-place-preserved : goal.loop-place-preserved
loop-place-preserved c =
    places_more (λ i. is_wanted c.args.query.now (to_z w64 (of_z w64 c.args.horizon)) (slice_index_or c.args.times.now i (pos 0))) c.args.skip c.loop-place.place c.loop-place.places.items c.push_wanted.new.places.items
    c.loop-place.auto.place c.loop-place.invariant c.in_ok-push_wanted.ensures
