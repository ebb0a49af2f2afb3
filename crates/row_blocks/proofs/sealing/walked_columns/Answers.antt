use Rattle.std.proofs.Common.{List, slice_index_or, [], ◌<◌, length, ℕ, sym, ap, subst}
use Rattle.leaf_model.specs.declared.lent_cells.LentCells.{LentCells}
use Rattle.leaf_model.specs.Lent.{each_cells, lent_rows}
use Rattle.row_blocks.specs.declared.column.BlockColumn.{BlockColumn}
use Rattle.row_blocks.specs.Merging.{AreCells, AreTaken}
use Rattle.row_blocks.proofs.Lent.{next_taken}
use Rattle.row_blocks.proofs.Taking.{none_taken, rest_are}
use Rattle.row_blocks.proofs.sealing.walked_columns.Goals as goal

pub loop-walk-init : goal.loop-walk-init
loop-walk-init c =
    subst (λ (columns : List BlockColumn). AreTaken (lent_rows c.args.rows.now) columns (each_cells c.args.cells.items)) (sym c.new-columns.ensures.items)
    (none_taken (lent_rows c.args.rows.now) (each_cells c.args.cells.items) c.requires.cells)

pub next_column-requires-clause-cells : goal.next_column-requires-clause-cells
next_column-requires-clause-cells c =
    subst (λ (l : List LentCells). (i : ℕ) → i < length (each_cells l) → AreCells (slice_index_or (each_cells l) i [])) (sym c.deref-in-loop-walk.ensures.value)
    (λ i within. rest_are (lent_rows c.args.rows.now) c.loop-walk.columns.items (each_cells c.loop-walk.rests.items) i c.requires.rows c.loop-walk.invariant within)

pub loop-walk-preserved : goal.loop-walk-preserved
loop-walk-preserved c =
    let rows = lent_rows c.args.rows.now in let columns = c.loop-walk.columns.items in
    subst (λ (l : List LentCells). AreTaken rows c.push.new.self.items (each_cells l)) (sym (ap (λ v. v.items) c.swap.ensures.x_after))
    (next_taken rows columns c.push.new.self.items (each_cells c.deref-in-loop-walk.result.now) (each_cells c.next_column.new.nexts.items) c.in_ok-column.field-0 c.in-Some.column c.in-Some.is
    c.requires.rows (subst (λ (l : List LentCells). AreTaken rows columns (each_cells l)) (sym c.deref-in-loop-walk.ensures.value) c.loop-walk.invariant)
    c.in_ok-column.ensures c.in_ok-push.ensures.items)
