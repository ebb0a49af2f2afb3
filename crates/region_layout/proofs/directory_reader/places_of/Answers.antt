use Rattle.std.proofs.Common.{◌+◌, ◌-◌}
use Rattle.std.proofs.lemmas.Result.{err_from_is_err_and}
use Rattle.leaf_model.specs.Reading.{many_at}
use Rattle.row_records.proofs.Loop.{goes_on, ends, is_done}
use Rattle.region_layout.specs.Directory.{place_at}
use Rattle.region_layout.proofs.Repeating.{item_read, item_fails, items_done}
use Rattle.region_layout.proofs.directory_reader.places_of.Goals as goal

pub returns-in_err-place : goal.returns-in_err-place
returns-in_err-place c =
    let p = err_from_is_err_and c.from_residual.result c.from_residual.ensures.1 in
    let front = c.loop.places.items in
    let fails = item_fails place_at c.args.count c.loop.counter c.loop.rest.now c.in_err-place.field-0.0 c.loop-test.true c.in_err-place.ensures in
    rw (p.1, p.2) (ends c.in_err-place.field-0.0 front (many_at place_at (c.args.count - c.loop.counter) c.loop.rest.now) (many_at place_at c.args.count c.args.bytes.now) fails c.loop.invariant)

pub loop-preserved : goal.loop-preserved
loop-preserved c =
    let front = c.loop.places.items in
    let place = c.in_ok-place.place in
    let after = c.in_ok-place.after.now in
    let one = item_read place_at c.args.count c.loop.counter c.loop.rest.now place after c.loop-test.true c.in_ok-place.ensures in
    let next = goes_on front place (many_at place_at (c.args.count - c.loop.counter) c.loop.rest.now) (many_at place_at (c.args.count - (c.loop.counter + 1)) after) (many_at place_at c.args.count c.args.bytes.now) one c.loop.invariant in
    rw c.in_ok-push.ensures.items next

pub returns : goal.returns
returns c =
    is_done c.loop.places.items c.loop.rest.now (many_at place_at (c.args.count - c.loop.counter) c.loop.rest.now) (many_at place_at c.args.count c.args.bytes.now) (items_done place_at c.args.count c.loop.counter c.loop.rest.now c.loop-test.false) c.loop.invariant
