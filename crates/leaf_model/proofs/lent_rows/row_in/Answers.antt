use Rattle.std.proofs.Common.{rules, refl}
use Rattle.std.specs.Int.{w64}
use Rattle.std.proofs.lemmas.Int.{to_z-of_z}
use Rattle.leaf_model.proofs.LentLaws.{row_parts}
use Rattle.leaf_model.proofs.lent_rows.row_in.Goals as goal

pub of-requires : goal.of-requires
of-requires c =
    let time = c.time_in-time.result in
    (row_parts c.args.bytes.now time.0 time.0 time.1.now c.u16_in-count.result.0 c.u16_in-count.result.1.now c.requires c.time_in-time.ensures c.u16_in-count.ensures refl).some

pub behind_cells-requires : goal.behind_cells-requires
behind_cells-requires c =
    let time = c.time_in-time.result in
    (row_parts c.args.bytes.now time.0 time.0 time.1.now c.u16_in-count.result.0 c.u16_in-count.result.1.now c.requires c.time_in-time.ensures c.u16_in-count.ensures refl).some

pub returns : goal.returns
returns c =
    let time = c.time_in-time.result in
    let parts = row_parts c.args.bytes.now time.0 time.0 time.1.now c.u16_in-count.result.0 c.u16_in-count.result.1.now c.requires c.time_in-time.ensures c.u16_in-count.ensures refl in
    rw (to_z-of_z w64 time.0 (search rules), c.of.ensures) (parts.row c.behind_cells.result.now c.behind_cells.ensures)
