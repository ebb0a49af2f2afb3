use Rattle.std.proofs.Common.{◌<◌, arith, get_or, refl}
use Rattle.std.proofs.lemmas.List.Elements.{All-from_recursion}
use Rattle.block_scan.proofs.Keyed.{placed_more}
use Rattle.block_scan.proofs.guesses.find_slots.Goals as goal

pub loop-place-preserved : goal.loop-place-preserved
loop-place-preserved c =
    let low = All-from_recursion (λ place. place < c.args.rows) c.args.places.now c.requires.inside c.loop-place.place-index 0 c.loop-place-test.true in
    record {
      few = omega (arith, c.loop-place.invariant.few, c.in_ok-slot.ensures.slot.few);
      firsts = c.in_ok-slot.ensures.firsts;
      placed =
          placed_more c.args.keys.now (get_or c.args.places.now c.loop-place.place-index 0) c.in_ok-slot.slot c.loop-place.firsts.items c.slot_for.new.firsts.items c.loop-place.at (omega (arith, low, c.loop-place.auto.at, c.requires.at))
          c.in_ok-slot.ensures.slot c.args.places.now c.loop-place.place-index c.loop-place-test.true refl c.loop-place.invariant.placed;
    }
