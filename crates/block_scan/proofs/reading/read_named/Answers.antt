use Rattle.std.proofs.Common.{subst, sym, ◌∙◌, arith}
use Rattle.std.specs.List.{AllByRecursion}
use Rattle.row_blocks.proofs.Taking.{all_push}
use Rattle.block_scan.specs.Reads.{IsRead}
use Rattle.block_scan.proofs.Cells.{columns_named, columns_other, steps_named, steps_other}
use Rattle.block_scan.proofs.reading.read_named.Goals as goal

pub loop-column-preserved-then-not-is_named : goal.loop-column-preserved-then-not-is_named
loop-column-preserved-then-not-is_named g c =
    let was = c.loop-column.invariant in let q = c.args.query.now in let columns = c.args.columns.now in let i = c.loop-column.column-index in let column = c.column-item.result in
    let other = sym c.is_named.ensures ∙ c.if-not-is_named.true in
    let count = steps_other q columns i column c.loop-column-test.true c.column-item.is other in
    record {
      columns = columns_other q columns i column c.loop-column.read.items c.loop-column-test.true c.column-item.is other was.columns;
      read = was.read;
      steps = omega (arith, was.steps, count);
    }

pub returns-in_err-push-clause-steps : goal.returns-in_err-push-clause-steps
returns-in_err-push-clause-steps g c =
    let was = c.loop-column.invariant in let q = c.args.query.now in let columns = c.args.columns.now in let i = c.loop-column.column-index in let column = c.column-item.result in
    let named = sym c.is_named.ensures ∙ c.if-not-is_named.false in
    omega (arith, was.steps, steps_named q columns i column c.loop-column-test.true c.column-item.is named, c.read_column.ensures.step)

pub loop-column-preserved : goal.loop-column-preserved
loop-column-preserved g c =
    let was = c.loop-column.invariant in let q = c.args.query.now in let columns = c.args.columns.now in let i = c.loop-column.column-index in let column = c.column-item.result in
    let named = sym c.is_named.ensures ∙ c.if-not-is_named.false in
    let count = steps_named q columns i column c.loop-column-test.true c.column-item.is named in
    record {
      columns = columns_named q columns i column c.loop-column.read.items c.push.new.self.items c.read_column.result c.loop-column-test.true c.column-item.is named was.columns c.read_column.ensures.column c.in_ok-push.ensures.items;
      read = subst (AllByRecursion (IsRead c.args.rows)) (sym c.in_ok-push.ensures.items) (all_push (IsRead c.args.rows) c.loop-column.read.items c.read_column.result was.read c.read_column.ensures.read);
      steps = omega (arith, was.steps, count, c.read_column.ensures.step);
    }
