use Rattle.std.proofs.Common.{rules, map, ap}
use Rattle.std.specs.List.{filter}
use Rattle.std.proofs.lemmas.Fn.{always_returns_same}
use Rattle.std.proofs.lemmas.List.Sorted.{ranks_by}
use Rattle.std.proofs.lemmas.Result.{on_ok_weaker}
use Rattle.row_blocks.specs.Runs.{comes_before, is_at}
use Rattle.row_blocks.proofs.FrontRun.{cell_in, heading_at, row_rises}
use Rattle.row_blocks.proofs.Order.{heading_total}
use Rattle.row_blocks.proofs.Sorting.{part_stays, rises_sorted}
use Rattle.row_blocks.proofs.runs.sort.Goals as goal

pub returns-clause-rise : goal.returns-clause-rise
returns-clause-rise c =
    let order = ranks_by heading_total heading_at in
    on_ok_weaker c.sort_by.result
    (λ sorted. rises_sorted comes_before order c.sort_by.new.self.items (sorted comes_before order (always_returns_same _ _ _ (λ a r f k. search rules))))
    c.sort_by.ensures.sorted

pub returns-clause-cells : goal.returns-clause-cells
returns-clause-cells c =
    let order = ranks_by heading_total heading_at in
    let before = c.args.cells.now.items in
    let stable = c.sort_by.ensures.stable comes_before order (always_returns_same _ _ _ (λ a r f k. search rules)) in
    on_ok_weaker c.sort_by.result
    (λ sorted i. ap (map cell_in) (part_stays comes_before order (is_at i) before c.sort_by.new.self.items (row_rises (filter (is_at i) before) (c.requires i))
    (sorted comes_before order (always_returns_same _ _ _ (λ a r f k. search rules))) stable))
    c.sort_by.ensures.sorted
