use Rattle.std.proofs.Common.{◌<◌, length, is_some, ap, ◌∙◌, arith}
use Rattle.column_bytes.specs.Cells.{Coded, cell_at}
use Rattle.column_bytes.proofs.Parts.{length-codes, present_below, cell_is_there}
use Rattle.column_bytes.proofs.view.ColumnView.has_cell.Goals as goal

pub is_there-requires : goal.is_there-requires
is_there-requires c =
    let inside = c.self.inside in
    let len = length-codes inside.packed.bytes inside.packed.width inside.count in
    present_below inside.presence inside.count c.args.i c.self.invariant.presence
    (omega (arith, len, ap (λ (v : Coded). length v.codes) c.self.view_is, c.requires))

pub returns : goal.returns
returns c =
    let inside = c.self.inside in
    let len = length-codes inside.packed.bytes inside.packed.width inside.count in
    let within : c.args.i < inside.count = omega (arith, len, ap (λ (v : Coded). length v.codes) c.self.view_is, c.requires) in
    c.is_there.ensures ∙ cell_is_there inside.form inside.count inside.presence inside.packed inside.extra.now c.args.i within
    ∙ ap (λ v. is_some (cell_at v c.args.i)) c.self.view_is
