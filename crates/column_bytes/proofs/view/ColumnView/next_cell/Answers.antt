use Rattle.std.proofs.Common.{length, is_some, subst}
use Rattle.column_bytes.specs.Cells.{Coded, cell_at}
use Rattle.column_bytes.specs.Next.{TellsFirst}
use Rattle.column_bytes.proofs.Next.{first_cell}
use Rattle.column_bytes.proofs.view.ColumnView.next_cell.Goals as goal

pub returns : goal.returns
returns c =
    let inside = c.self.inside in
    subst (λ (v : Coded). TellsFirst (λ i. is_some (cell_at v i)) c.args.from (length v.codes) c.next_present.result) c.self.view_is
    (first_cell inside.form inside.count inside.presence inside.packed inside.extra.now c.args.from c.next_present.result c.next_present.ensures)
