use Rattle.std.proofs.Common.{Some, option_map, sym, ap, ◌∙◌}
use Rattle.column_bytes.specs.Cells.{cell_at, value_lent}
use Rattle.row_blocks.proofs.LivePlaces.{no_cell, one_cell}
use Rattle.row_blocks.proofs.rows.push_cell.Goals as goal

pub returns-in-None : goal.returns-in-None
returns-in-None c = no_cell c.args.name.now (cell_at c.args.view.now c.args.place) c.args.cells.now.items (sym c.cell.ensures ∙ ap (option_map value_lent) c.in-None.is)

pub returns-in_ok-push-in-Some : goal.returns-in_ok-push-in-Some
returns-in_ok-push-in-Some c =
    c.in_ok-push-in-Some.ensures.items
    ∙ one_cell c.args.name.now c.in_ok-name-in-Some.name (cell_at c.args.view.now c.args.place) c.in_ok-value-in-Some.value c.args.cells.now.items
    (sym c.cell.ensures ∙ ap (option_map value_lent) c.in-Some.is ∙ ap (λ v. Some v) (sym c.in_ok-value-in-Some.ensures))
    c.in_ok-name-in-Some.ensures
