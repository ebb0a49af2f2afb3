use Rattle.std.proofs.Common.{length, sym, subst, ◌∙◌}
use Rattle.std.proofs.lemmas.Bool.{false≢true}
use Rattle.column_bytes.specs.Cells.{cells_of}
use Rattle.row_blocks.specs.Columns.{MeanCells, cells_in}
use Rattle.row_blocks.proofs.Means.{means}
use Rattle.adopt.proofs.cells.tell_read.Goals as goal

pub returns-in-Ok : goal.returns-in-Ok
returns-in-Ok g c = (
  subst (MeanCells c.args.bytes.now) (sym c.len.ensures.len) (means c.args.bytes.now (length c.in-Ok.view.codes) (cells_of c.in-Ok.view) c.in-Ok.ensures.accepted).0,
  sym (c.kind.ensures ∙ c.in-Ok.ensures.kind),
)

pub returns : goal.returns
unfolding MeanCells
returns g c = λ n mean. absurd (false≢true (c.in-Err.ensures.exact n (cells_in c.args.bytes.now) mean))
