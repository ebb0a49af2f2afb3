use Rattle.std.proofs.Common.{◌≡◌, ℕ, ◌<◌, List, length, slice_index, Option, Some, None, IfSome, arith}
use Rattle.column_bytes.specs.Cells.{Coded, cells_of, kind_of_book}
use Rattle.column_bytes.specs.Column.{HasCells, kind_in}
use Rattle.row_blocks.specs.Columns.{IsSeen, MeanCells, cells_in}
use Rattle.row_blocks.proofs.Means.{means}
use Rattle.row_blocks.proofs.Values.{values_fit}
use Rattle.row_blocks.proofs.reading.view_of.Goals as goal

seen : (bytes : List ℕ) (found : Option Coded) → ((k : ℕ) → slice_index bytes k < 256) → IfSome found (λ view. HasCells bytes (length view.codes) (cells_of view)) → IfSome found (λ view. kind_of_book view.book ≡ kind_in bytes)
    → IfSome found (λ view. IsSeen view bytes)
seen bytes None below cells kind = tt
seen bytes (Some view) below cells kind =
    let is = means bytes (length view.codes) (cells_of view) cells in
    record { mean = is.0; cells = is.1; kind = kind; values = values_fit bytes (length view.codes) below is.0 }

pub returns-clause-seen : goal.returns-clause-seen
returns-clause-seen c = seen c.args.bytes.now c.view_counted.result (λ k. omega (arith, c.type_inv.bytes k)) c.view_counted.ensures.cells c.view_counted.ensures.kind

pub returns-clause-exact : goal.returns-clause-exact
unfolding MeanCells
returns-clause-exact c = λ n mean. c.view_counted.ensures.exact n (cells_in c.args.bytes.now) mean
