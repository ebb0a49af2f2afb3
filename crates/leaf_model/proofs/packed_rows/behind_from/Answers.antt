use Rattle.std.proofs.Common.{◌-◌, ℤ, to_z, of_z, subst, arith, rules}
use Rattle.std.specs.Int.{w64}
use Rattle.std.proofs.lemmas.Int.{to_z-of_z}
use Rattle.leaf_model.specs.Packed.{packed_rows, AreFrom}
use Rattle.leaf_model.specs.Reading.{rows_at}
use Rattle.leaf_model.specs.Lent.{lent_row}
use Rattle.leaf_model.proofs.LentLaws.{row_first, rows_pass, rows_done, passed_all}
use Rattle.leaf_model.proofs.PackedLaws.{stays}
use Rattle.leaf_model.proofs.PackedBytes.{from_none, from_pass}
use Rattle.leaf_model.proofs.packed_rows.behind_from.Goals as goal

pub row_in-requires : goal.row_in-requires
row_in-requires c = row_first (c.args.count - c.loop.counter) c.loop.rest.now (omega (arith, c.loop-test.true)) c.loop.invariant.passes.some

pub loop-preserved : goal.loop-preserved
loop-preserved c =
    let row = lent_row c.row_in.result.0 in
    let after = c.row_in.result.1.now in
    let h = to_z w64 (of_z w64 c.args.horizon) in
    let at = stays h row.time (search rules) c.if-row-horizon.false in
    record {
      passes = rows_pass c.args.count c.loop.counter c.loop.rest.now row after (rows_at c.args.count c.args.bytes.now) c.loop-test.true c.row_in.ensures c.loop.invariant.passes;
      all = λ fits. c.loop.invariant.all (from_pass h c.args.count c.loop.counter c.loop.rest.now row after c.loop-test.true c.row_in.ensures c.loop.invariant.passes.some at fits);
    }

pub returns-clause-behind : goal.returns-clause-behind
returns-clause-behind c =
    let total = rows_at c.args.count c.args.bytes.now in
    passed_all c.loop.rest.now (rows_at (c.args.count - c.loop.counter) c.loop.rest.now) total c.requires (rows_done c.args.count c.loop.counter c.loop.rest.now c.loop-test.false) c.loop.invariant.passes

pub returns-clause-all : goal.returns-clause-all
returns-clause-all c =
    let rows = packed_rows c.args.count c.args.bytes.now in
    subst (λ (h : ℤ). AreFrom h rows) (to_z-of_z w64 c.args.horizon c.ranges.horizon) (c.loop.invariant.all (from_none (to_z w64 (of_z w64 c.args.horizon)) c.args.count c.loop.counter c.loop.rest.now c.loop-test.false))
