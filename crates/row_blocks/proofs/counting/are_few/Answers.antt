use Rattle.std.proofs.Common.{is_some, sym, ◌∙◌, arith}
use Rattle.column_bytes.specs.Cells.{cell_at}
use Rattle.row_blocks.specs.Counts.{AreCounted, IsOver}
use Rattle.row_blocks.proofs.Counted.{column_counted, never_few, view_at}
use Rattle.row_blocks.proofs.Standing.{seen_length}
use Rattle.row_blocks.proofs.counting.are_few.Goals as goal

pub bounds-views-k : goal.bounds-views-k
bounds-views-k c = omega (arith, seen_length c.args.views.now c.args.columns.now c.requires.seen, c.loop-k-test.true)

pub count_column-requires-clause-same : goal.count_column-requires-clause-same
count_column-requires-clause-same c =
    let is = view_at c.args.rows c.args.views.now c.args.columns.now c.loop-k.k c.index-views-k.result c.requires.each c.requires.seen c.loop-k-test.true c.index-views-k.is in
    c.loop-k.invariant.long ∙ sym is.count

pub returns-then-not-count_column : goal.returns-then-not-count_column
returns-then-not-count_column c =
    let columns = c.args.columns.now in let k = c.loop-k.k in let view = c.index-views-k.result in let was = c.loop-k.invariant in
    let is = view_at c.args.rows c.args.views.now columns k view c.requires.each c.requires.seen c.loop-k-test.true c.index-views-k.is in
    let over : IsOver (λ i. is_some (cell_at view i)) c.loop-k.counts = rw c.if-not-count_column.true at c.count_column.ensures in
    (λ never. absurd cc, λ few. absurd (never_few c.args.rows k columns view c.loop-k.counts c.loop-k-test.true is was.long was.counted over few))

pub loop-k-preserved : goal.loop-k-preserved
loop-k-preserved c =
    let columns = c.args.columns.now in let k = c.loop-k.k in let view = c.index-views-k.result in let was = c.loop-k.invariant in
    let is = view_at c.args.rows c.args.views.now columns k view c.requires.each c.requires.seen c.loop-k-test.true c.index-views-k.is in
    let more : AreCounted (λ i. is_some (cell_at view i)) c.loop-k.counts c.count_column.new.counts = rw c.if-not-count_column.false at c.count_column.ensures in
    record {
      long = c.count_column.auto.counts ∙ was.long;
      counted = λ i inside. column_counted c.args.rows i k columns view _ _ c.loop-k-test.true is inside (more.each i (omega (arith, inside, was.long))) (was.counted i inside);
      few = λ i inside. more.few i (omega (arith, inside, was.long));
    }
