use Rattle.std.proofs.Common.{rules, List, Option, refl, sym, ap, ◌∙◌}
use Rattle.std.specs.Int.{w64}
use Rattle.std.proofs.lemmas.Int.{to_z-of_z}
use Rattle.row_model.specs.declared.rows.Value.{Value}
use Rattle.leaf_model.specs.Fronts.{any_cells_at, front_of}
use Rattle.leaf_model.specs.Lent.{spelled_cells}
use Rattle.leaf_model.specs.Looks.{looks_begun, filled}
use Rattle.leaf_model.proofs.LentLaws.{row_parts}
use Rattle.leaf_model.proofs.SeenLaws.{all_seen}
use Rattle.leaf_model.proofs.looks.look_in.Goals as goal

pub of-requires : goal.of-requires
of-requires c =
    let time = c.time_in-time.result in
    (row_parts c.args.bytes.now time.0 time.0 time.1.now c.u16_in-count.result.0 c.u16_in-count.result.1.now c.requires.row c.time_in-time.ensures c.u16_in-count.ensures refl).some

pub look_behind-after-requires-clause-cells : goal.look_behind-after-requires-clause-cells
look_behind-after-requires-clause-cells c =
    let time = c.time_in-time.result in
    (row_parts c.args.bytes.now time.0 time.0 time.1.now c.u16_in-count.result.0 c.u16_in-count.result.1.now c.requires.row c.time_in-time.ensures c.u16_in-count.ensures refl).some

pub returns-clause-row : goal.returns-clause-row
returns-clause-row c =
    let time = c.time_in-time.result in
    let parts = row_parts c.args.bytes.now time.0 time.0 time.1.now c.u16_in-count.result.0 c.u16_in-count.result.1.now c.requires.row c.time_in-time.ensures c.u16_in-count.ensures refl in
    rw (to_z-of_z w64 time.0 (search rules), c.of.ensures) (parts.row c.look_behind-after.result.now c.look_behind-after.ensures.rest)

pub returns-clause-seen : goal.returns-clause-seen
returns-clause-seen c =
    let time = c.time_in-time.result in
    let all = c.args.sought.now in
    let fits = to_z-of_z w64 time.0 (search rules) in
    rw fits (
    c.look_behind-after.ensures.filled
    ∙ ap (λ (vs : List (Option Value)). filled all vs (front_of (any_cells_at c.u16_in-count.result.0 c.u16_in-count.result.1.now))) (rw fits at c.begin.ensures.begun)
    ∙ ap (filled all (looks_begun time.0 all)) (sym c.of.ensures)
    ∙ all_seen (record { time = time.0; cells = spelled_cells c.of.result }) all)
