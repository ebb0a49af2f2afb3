use Rattle.std.proofs.Common.{[], List, slice_index_or, sym, subst}
use Rattle.std.specs.List.Sorted.{IsStrictlySortedBy}
use Rattle.std.specs.Cmp.Lexicographic.{slice_cmp}
use Rattle.std.specs.Ordering.{nat_cmp}
use Rattle.leaf_model.specs.declared.lent_cells.LentCells.{LentCells}
use Rattle.leaf_model.specs.Lent.{each_cells, lent_rows}
use Rattle.row_blocks.specs.Places.{names_of}
use Rattle.row_blocks.proofs.FrontRun.{rests_are}
use Rattle.row_blocks.proofs.sealing.other_columns.Goals as goal

pub in_order-requires : goal.in_order-requires
in_order-requires c = λ i.
    let rests = c.in_ok-columns.rests.items in
    subst (λ (l : List LentCells). IsStrictlySortedBy (slice_cmp nat_cmp) (names_of (slice_index_or (each_cells l) i []))) (sym c.deref.ensures.value)
    (rests_are (lent_rows c.args.rows.now) c.in_ok-columns.columns.items (each_cells rests) c.requires.rows c.in_ok-columns.ensures i).ascending
