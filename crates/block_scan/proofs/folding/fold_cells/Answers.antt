use Rattle.std.proofs.Common.{slice_index, refl}
use Rattle.block_scan.proofs.Split.{fold_more}
use Rattle.block_scan.proofs.folding.fold_cells.Goals as goal

pub loop-place-preserved : goal.loop-place-preserved
loop-place-preserved c =
    let k = c.loop-place.place-index in
    record {
      value = fold_more c.args.decoded.now c.args.places.now k (slice_index c.args.places.now k) c.loop-place.fold c.add_cell.new.fold c.integer_of.result c.loop-place-test.true refl
          c.loop-place.invariant.value c.integer_of.ensures c.add_cell.ensures.value;
      within = c.add_cell.ensures.within k c.loop-place.invariant.within;
    }
