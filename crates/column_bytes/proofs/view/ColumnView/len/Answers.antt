use Rattle.std.proofs.Common.{length, sym, ap, ◌∙◌}
use Rattle.column_bytes.specs.Cells.{Coded}
use Rattle.column_bytes.proofs.Parts.{length-codes}
use Rattle.column_bytes.proofs.view.ColumnView.len.Goals as goal

pub returns-clause-len : goal.returns-clause-len
returns-clause-len c =
    let inside = c.self.inside in
    sym (length-codes inside.packed.bytes inside.packed.width inside.count) ∙ ap (λ (v : Coded). length v.codes) c.self.view_is
