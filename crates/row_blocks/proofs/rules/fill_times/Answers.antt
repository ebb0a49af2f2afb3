use Rattle.std.proofs.Common.{◌<◌, length, cond, false, pos, Option, Some, None, List, slice_index_or, sym, ap, ◌∙◌, arith}
use Rattle.std.proofs.lemmas.List.FromFn.{get_or-map-range_with_len}
use Rattle.row_model.specs.declared.rows.Value.{Value}
use Rattle.row_model.specs.declared.rows.Value.TheVariants.{Int}
use Rattle.column_bytes.specs.Cells.{cell_at}
use Rattle.row_blocks.proofs.rules.fill_times.Goals as goal

pub returns : goal.returns
returns c = λ i h.
    let view = c.args.view.now in
    let present = c.integers.new.present in
    let values = c.integers.new.values in
    let within : i < length present = omega (arith, h, c.integers.auto.present, c.requires.present) in
    sym (get_or-map-range_with_len (cell_at view) 0 (length view.codes) i i None h (omega arith))
    ∙ ap (λ (l : List (Option Value)). slice_index_or l i None) c.integers.ensures
    ∙ get_or-map-range_with_len (λ k. cond (slice_index_or present k false) (Some (Int (slice_index_or values k (pos 0)))) None) 0 (length present) i i None within (omega arith)
