use Rattle.std.proofs.Common.{arith}
use Rattle.leaf_model.specs.Packed.{packed_rows}
use Rattle.leaf_model.proofs.PackedLaws.{row_there, step, goes_by, stays_down, few_kept}
use Rattle.leaf_model.proofs.packed_rows.keep_from.Goals as goal

pub first_row-time-requires : goal.first_row-time-requires
first_row-time-requires c =
    row_there c.args.count c.args.bytes.now (packed_rows c.args.count c.args.bytes.now) _ c.loop-place.bytes _ c.loop-place.place c.loop-place.from c.loop-place.to c.loop-place.kept c.requires c.loop-place.invariant c.loop-place-test.true

pub overflow_add-from : goal.overflow_add-from
overflow_add-from c =
    let s = step c.args.count c.args.bytes.now (packed_rows c.args.count c.args.bytes.now) _ c.loop-place.bytes _ c.loop-place.place c.loop-place.from c.loop-place.to c.loop-place.kept c.first_row-time.result.0 c.first_row-time.result.1 c.requires c.loop-place.invariant c.loop-place-test.true c.first_row-time.ensures in
    omega (arith, s.within)

pub loop-place-preserved-then-time-horizon : goal.loop-place-preserved-then-time-horizon
loop-place-preserved-then-time-horizon c =
    let s = step c.args.count c.args.bytes.now (packed_rows c.args.count c.args.bytes.now) _ c.loop-place.bytes _ c.loop-place.place c.loop-place.from c.loop-place.to c.loop-place.kept c.first_row-time.result.0 c.first_row-time.result.1 c.requires c.loop-place.invariant c.loop-place-test.true c.first_row-time.ensures in
    goes_by (packed_rows c.args.count c.args.bytes.now) _ c.loop-place.bytes _ c.loop-place.place c.loop-place.from c.loop-place.to c.loop-place.kept c.first_row-time.result.0 c.first_row-time.result.1 c.loop-place.invariant s c.if-time-horizon.true

pub move_down-requires-clause-within : goal.move_down-requires-clause-within
move_down-requires-clause-within c =
    let s = step c.args.count c.args.bytes.now (packed_rows c.args.count c.args.bytes.now) _ c.loop-place.bytes _ c.loop-place.place c.loop-place.from c.loop-place.to c.loop-place.kept c.first_row-time.result.0 c.first_row-time.result.1 c.requires c.loop-place.invariant c.loop-place-test.true c.first_row-time.ensures in
    s.within

pub overflow_add-from-in-loop-place : goal.overflow_add-from-in-loop-place
overflow_add-from-in-loop-place c =
    let s = step c.args.count c.args.bytes.now (packed_rows c.args.count c.args.bytes.now) _ c.loop-place.bytes _ c.loop-place.place c.loop-place.from c.loop-place.to c.loop-place.kept c.first_row-time.result.0 c.first_row-time.result.1 c.requires c.loop-place.invariant c.loop-place-test.true c.first_row-time.ensures in
    omega (arith, s.within)

pub overflow_add-to : goal.overflow_add-to
overflow_add-to c =
    let s = step c.args.count c.args.bytes.now (packed_rows c.args.count c.args.bytes.now) _ c.loop-place.bytes _ c.loop-place.place c.loop-place.from c.loop-place.to c.loop-place.kept c.first_row-time.result.0 c.first_row-time.result.1 c.requires c.loop-place.invariant c.loop-place-test.true c.first_row-time.ensures in
    omega (arith, s.within)

pub overflow_add-kept : goal.overflow_add-kept
overflow_add-kept c =
    let few = few_kept (packed_rows c.args.count c.args.bytes.now) _ c.loop-place.bytes _ c.loop-place.place c.loop-place.from c.loop-place.to c.loop-place.kept c.loop-place.invariant in
    omega (arith, few)

pub loop-place-preserved : goal.loop-place-preserved
loop-place-preserved c =
    let s = step c.args.count c.args.bytes.now (packed_rows c.args.count c.args.bytes.now) _ c.loop-place.bytes _ c.loop-place.place c.loop-place.from c.loop-place.to c.loop-place.kept c.first_row-time.result.0 c.first_row-time.result.1 c.requires c.loop-place.invariant c.loop-place-test.true c.first_row-time.ensures in
    stays_down (packed_rows c.args.count c.args.bytes.now) _ c.loop-place.bytes c.move_down.new.bytes _ c.loop-place.place c.loop-place.from c.loop-place.to c.loop-place.kept c.first_row-time.result.0 c.first_row-time.result.1 c.loop-place.invariant s c.if-time-horizon.false c.move_down.ensures.len c.move_down.ensures.front c.move_down.ensures.back
