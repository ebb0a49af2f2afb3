use Rattle.std.proofs.Common.{◌+◌, take, sym, subst}
use Rattle.column_bytes.specs.Cells.{Coded}
use Rattle.std.proofs.Common.{List}
use Rattle.row_blocks.specs.Places.{AreSeen}
use Rattle.row_blocks.proofs.Standing.{others_more}
use Rattle.row_blocks.proofs.rules.views_of_others.Goals as goal

pub loop-column-preserved : goal.loop-column-preserved
loop-column-preserved c =
    let columns = c.args.columns.now in let k = c.loop-column.column-index in let was = c.loop-column.invariant in
    let more = others_more c.args.rows columns c.loop-column.views.items k c.column-item.result c.in-Some.view c.loop-column-test.true c.column-item.is was.each was.seen c.in-Some.ensures.0 c.in-Some.ensures.1 in
    record { each = more.0; seen = subst (λ (views : List Coded). AreSeen views (take (k + 1) columns)) (sym c.in_ok-push-in-Some.ensures.items) more.1 }
