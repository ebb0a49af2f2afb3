use Rattle.std.proofs.Common.{Bool, true, List, length, sym, ap, subst, ◌∙◌}
use Rattle.std.proofs.lemmas.List.{length-replicate}
use Rattle.row_blocks.specs.Columns.{MeanCells}
use Rattle.row_blocks.proofs.Means.{written}
use Rattle.row_blocks.proofs.Sealed.{all_marked, are_integers, time_cells}
use Rattle.row_blocks.proofs.sealing.times_column.Goals as goal

pub encode_numbers-requires-clause-same : goal.encode_numbers-requires-clause-same
encode_numbers-requires-clause-same c =
    ap (λ (l : List Bool). length l) (c.deref.ensures.value ∙ c.in_ok-marks.ensures) ∙ length-replicate (length c.args.times.now) true

pub returns-clause-means : goal.returns-clause-means
returns-clause-means c =
    let times = c.args.times.now in
    let marks = c.deref.ensures.value ∙ c.in_ok-marks.ensures in
    let count = ap (λ (l : List Bool). length l) marks ∙ length-replicate (length times) true in
    subst (MeanCells c.of-2.result) count
    (written c.in_ok-bytes.bytes c.of-2.result (length c.deref.result.now) (time_cells times)
    (c.in_ok-bytes.ensures.cells (time_cells times) (all_marked times ∙ sym marks) (are_integers times)) (c.of-2.ensures ∙ c.into_bytes.ensures)).0

pub returns-clause-cells : goal.returns-clause-cells
returns-clause-cells c =
    let times = c.args.times.now in
    let marks = c.deref.ensures.value ∙ c.in_ok-marks.ensures in
    (written c.in_ok-bytes.bytes c.of-2.result (length c.deref.result.now) (time_cells times)
    (c.in_ok-bytes.ensures.cells (time_cells times) (all_marked times ∙ sym marks) (are_integers times)) (c.of-2.ensures ∙ c.into_bytes.ensures)).1
