use Rattle.std.proofs.Common.{ℕ, List, length, sym, ap, subst, ◌∙◌}
use Rattle.std.proofs.lemmas.Bool.{false≢true}
use Rattle.column_bytes.specs.Cells.{cells_of}
use Rattle.column_bytes.specs.Column.{HasCells, kind_in}
use Rattle.row_blocks.specs.Columns.{MeanCells, cells_in}
use Rattle.row_blocks.proofs.Means.{means, one_count}
use Rattle.block_scan.proofs.reading.read_column.Goals as goal

has_cells : (bytes : List ℕ) (rows : ℕ) → MeanCells bytes rows → HasCells bytes rows (cells_in bytes)
unfolding MeanCells
has_cells bytes rows mean = mean

pub unreachable-requires : goal.unreachable-requires
unreachable-requires g c =
    let has = subst (λ (bytes : List ℕ). HasCells bytes c.args.rows (cells_in c.args.column.now.bytes)) (sym c.as_slice.ensures) (has_cells c.args.column.now.bytes c.args.rows c.requires) in
    let ok = c.in-Err.ensures.exact c.args.rows (cells_in c.args.column.now.bytes) has in
    false≢true ok

pub returns-clause-read : goal.returns-clause-read
returns-clause-read g c =
    let bytes = c.args.column.now.bytes in
    let view = c.in-Ok.view in
    let has = subst (λ (b : List ℕ). HasCells b (length view.codes) (cells_of view)) c.as_slice.ensures c.in-Ok.ensures.accepted in
    let is = means bytes (length view.codes) (cells_of view) has in
    record {
      count = one_count bytes (length view.codes) c.args.rows is.0 c.requires;
      cells = is.1;
      kind = c.in-Ok.ensures.kind ∙ ap kind_in c.as_slice.ensures;
    }
