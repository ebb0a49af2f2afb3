use Rattle.std.proofs.Common.{◌≤◌, List, length, ap, arith}
use Rattle.std.proofs.lemmas.List.{length-drop}
use Rattle.row_model.specs.declared.rows.Row.{Row}
use Rattle.leaf_model.specs.Lent.{lent_rows}
use Rattle.table_state.proofs.Runs.{run_length, run_more, run_rows, runs_are, runs_columns}
use Rattle.table_state.proofs.sealing.runs_of.Goals as goal

pub seal-requires-clause-some : goal.seal-requires-clause-some
seal-requires-clause-some c =
    let more : 65536 ≤ length (lent_rows c.loop-left.left) = omega (arith, c.len.ensures, c.loop-left-test.true) in
    let count = run_length (lent_rows c.args.rows.now) (lent_rows c.loop-left.left) c.loop-left.blocks.items c.loop-left.invariant more (lent_rows c.split_at.result.0) c.split_at.ensures.front in
    omega (arith, count)

pub seal-requires-clause-few : goal.seal-requires-clause-few
seal-requires-clause-few c =
    let more : 65536 ≤ length (lent_rows c.loop-left.left) = omega (arith, c.len.ensures, c.loop-left-test.true) in
    let count = run_length (lent_rows c.args.rows.now) (lent_rows c.loop-left.left) c.loop-left.blocks.items c.loop-left.invariant more (lent_rows c.split_at.result.0) c.split_at.ensures.front in
    omega (arith, count)

pub seal-requires-clause-rows : goal.seal-requires-clause-rows
seal-requires-clause-rows c =
    let more : 65536 ≤ length (lent_rows c.loop-left.left) = omega (arith, c.len.ensures, c.loop-left-test.true) in
    run_rows (lent_rows c.args.rows.now) (lent_rows c.loop-left.left) c.loop-left.blocks.items c.loop-left.invariant more (lent_rows c.split_at.result.0) c.split_at.ensures.front

pub loop-left-smaller : goal.loop-left-smaller
loop-left-smaller c =
    let more : 65536 ≤ length (lent_rows c.loop-left.left) = omega (arith, c.len.ensures, c.loop-left-test.true) in
    let count = ap (λ (l : List Row). length l) c.split_at.ensures.back in
    omega (arith, more, count, length-drop 65536 (lent_rows c.loop-left.left))

pub loop-left-preserved : goal.loop-left-preserved
loop-left-preserved c =
    let more : 65536 ≤ length (lent_rows c.loop-left.left) = omega (arith, c.len.ensures, c.loop-left-test.true) in
    run_more (lent_rows c.args.rows.now) (lent_rows c.loop-left.left) c.loop-left.blocks.items c.loop-left.invariant more (lent_rows c.split_at.result.0) c.split_at.ensures.front
    c.in_ok-block.block c.is_block.ensures c.in_ok-block.ensures.rows c.in_ok-block.ensures.few c.push.new.self.items c.in_ok-push.ensures.items (lent_rows c.split_at.result.1) c.split_at.ensures.back

pub returns-clause-rows : goal.returns-clause-rows
returns-clause-rows c =
    runs_are (lent_rows c.args.rows.now) (lent_rows c.loop-left.left) c.loop-left.blocks.items c.loop-left.invariant (omega (arith, c.len.ensures, c.loop-left-test.false))

pub returns-clause-few : goal.returns-clause-few
returns-clause-few c =
    runs_columns (lent_rows c.args.rows.now) (lent_rows c.loop-left.left) c.loop-left.blocks.items c.loop-left.invariant (omega (arith, c.len.ensures, c.loop-left-test.false))
