use Rattle.std.proofs.Common.{◌+◌, ◌-◌}
use Rattle.std.proofs.lemmas.Result.{err_from_is_err_and}
use Rattle.row_records.specs.Reading.{writes_at}
use Rattle.row_records.proofs.Loop.{goes_on, ends, is_done, write_read, write_fails, writes_done}
use Rattle.row_records.proofs.record_reader.writes_of.Goals as goal

pub returns-in_err-write : goal.returns-in_err-write
returns-in_err-write c =
    let p = err_from_is_err_and c.from_residual.result c.from_residual.ensures.1 in
    let front = c.loop.writes.items in
    let fails = write_fails c.in_err-write.field-0.0 c.args.count c.loop.counter c.loop.rest.now c.loop-test.true c.in_err-write.ensures in
    rw (p.1, p.2) (ends c.in_err-write.field-0.0 front (writes_at (c.args.count - c.loop.counter) c.loop.rest.now) (writes_at c.args.count c.args.bytes.now) fails c.loop.invariant)

pub loop-preserved : goal.loop-preserved
loop-preserved c =
    let front = c.loop.writes.items in
    let write = c.in_ok-write.write in
    let after = c.in_ok-write.after.now in
    let one = write_read c.args.count c.loop.counter c.loop.rest.now write after c.loop-test.true c.in_ok-write.ensures in
    let next = goes_on front write (writes_at (c.args.count - c.loop.counter) c.loop.rest.now) (writes_at (c.args.count - (c.loop.counter + 1)) after) (writes_at c.args.count c.args.bytes.now) one c.loop.invariant in
    rw c.in_ok-push.ensures.items next

pub returns : goal.returns
returns c =
    is_done c.loop.writes.items c.loop.rest.now (writes_at (c.args.count - c.loop.counter) c.loop.rest.now) (writes_at c.args.count c.args.bytes.now) (writes_done c.args.count c.loop.counter c.loop.rest.now c.loop-test.false) c.loop.invariant
