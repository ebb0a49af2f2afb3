use Rattle.std.proofs.Common.{◌-◌, arith}
use Rattle.leaf_model.specs.Lent.{lent_row}
use Rattle.leaf_model.specs.Reading.{rows_at}
use Rattle.leaf_model.proofs.LentLaws.{row_first, rows_pass, rows_done, passed_all}
use Rattle.leaf_model.proofs.lent_rows.behind_rows.Goals as goal

pub row_in-requires : goal.row_in-requires
row_in-requires c = row_first (c.args.count - c.loop.counter) c.loop.rest.now (omega (arith, c.loop-test.true)) c.loop.invariant.some

pub loop-preserved : goal.loop-preserved
loop-preserved c = rows_pass c.args.count c.loop.counter c.loop.rest.now (lent_row c.row_in.result.0) c.row_in.result.1.now (rows_at c.args.count c.args.bytes.now) c.loop-test.true c.row_in.ensures c.loop.invariant

pub returns : goal.returns
returns c =
    let total = rows_at c.args.count c.args.bytes.now in
    passed_all c.loop.rest.now (rows_at (c.args.count - c.loop.counter) c.loop.rest.now) total c.requires (rows_done c.args.count c.loop.counter c.loop.rest.now c.loop-test.false) c.loop.invariant
