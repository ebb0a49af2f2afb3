use Rattle.std.proofs.Common.{rules, ◌≡◌, ℕ, ◌+◌, ◌-◌, ◌<◌, ◌≤◌, List, [], ◌∷◌, ◌++◌, length, map, take, drop, get_or, sym, ap, subst, ◌∙◌, arith}
use Rattle.std.specs.List.{All}
use Rattle.std.proofs.lemmas.List.{drop-drop, drop_all, get_or_default, length-drop}
use Rattle.leaf_model.specs.Lent.{each_value, lent_rows}
use Rattle.row_blocks.specs.declared.column.BlockColumn.{BlockColumn}
use Rattle.row_blocks.specs.declared.runs.PlacedCell.{PlacedCell}
use Rattle.row_blocks.specs.Columns.{MeanCells}
use Rattle.row_blocks.specs.Merging.{front_value}
use Rattle.row_blocks.specs.Runs.{AreLeft, last_value, row_cells}
use Rattle.row_blocks.proofs.FrontRun.{IsRun, heading_at, next_run, none_left_over, run_kind, run_taken, run_values}
use Rattle.row_blocks.proofs.sealing.sorted_columns.Goals as goal

pub loop-from-init : goal.loop-from-init
loop-from-init c = record { within = omega arith; same = c.requires.places; left = c.requires.left }

pub overflow_add-to : goal.overflow_add-to
overflow_add-to c =
    let rows = lent_rows c.args.rows.now in let columns = c.loop-from.columns.items in let left = c.loop-from.invariant.left in
    let cells = c.args.cells.now in let from = c.loop-from.from in let count = c.run_len.result in let item = c.index-cells-from.result in let first = get_or cells from item in
    let run : IsRun left.rests first (drop from cells) count = next_run rows columns cells from count first c.requires.rows left c.loop-from-test.true (get_or_default cells from item first c.loop-from-test.true) c.run_len.ensures in
    let few : from + count ≤ length cells = omega (arith, run.few, length-drop from cells, c.loop-from.invariant.within) in
    search (rules, few)

pub slice_bounds-lend_run-end : goal.slice_bounds-lend_run-end
slice_bounds-lend_run-end c =
    let rows = lent_rows c.args.rows.now in let columns = c.loop-from.columns.items in let left = c.loop-from.invariant.left in
    let cells = c.args.cells.now in let from = c.loop-from.from in let count = c.run_len.result in let item = c.index-cells-from.result in let first = get_or cells from item in
    let run : IsRun left.rests first (drop from cells) count = next_run rows columns cells from count first c.requires.rows left c.loop-from-test.true (get_or_default cells from item first c.loop-from-test.true) c.run_len.ensures in
    let few : from + count ≤ length cells = omega (arith, run.few, length-drop from cells, c.loop-from.invariant.within) in
    few

pub lend_run-requires : goal.lend_run-requires
lend_run-requires c =
    let rows = lent_rows c.args.rows.now in let columns = c.loop-from.columns.items in let left = c.loop-from.invariant.left in
    let cells = c.args.cells.now in let from = c.loop-from.from in let count = c.run_len.result in let item = c.index-cells-from.result in let first = get_or cells from item in
    let run : IsRun left.rests first (drop from cells) count = next_run rows columns cells from count first c.requires.rows left c.loop-from-test.true (get_or_default cells from item first c.loop-from-test.true) c.run_len.ensures in
    let part : from + count - from ≡ count = omega arith in
    let same : length left.rests ≡ length c.loop-from.values = left.taken.same ∙ sym c.loop-from.invariant.same in
    subst (λ (n : ℕ). All (λ (p : PlacedCell). p.place < n) (take (from + count - from) (drop from cells))) same
    (subst (λ (n : ℕ). All (λ (p : PlacedCell). p.place < length left.rests) (take n (drop from cells))) (sym part) run.places)

pub column_like-requires-clause-kind : goal.column_like-requires-clause-kind
column_like-requires-clause-kind c =
    let rows = lent_rows c.args.rows.now in let columns = c.loop-from.columns.items in let left = c.loop-from.invariant.left in
    let cells = c.args.cells.now in let from = c.loop-from.from in let count = c.run_len.result in let item = c.index-cells-from.result in let first = get_or cells from item in
    let run : IsRun left.rests first (drop from cells) count = next_run rows columns cells from count first c.requires.rows left c.loop-from-test.true (get_or_default cells from item first c.loop-from-test.true) c.run_len.ensures in
    let part : from + count - from ≡ count = omega arith in
    let same : length c.lend_run.new.values ≡ length left.rests = c.lend_run.ensures.same ∙ c.loop-from.invariant.same ∙ sym left.taken.same in
    let fronts : each_value c.lend_run.new.values ≡ map (front_value (heading_at first)) left.rests
    = run_values left.rests first (drop from cells) count c.lend_run.new.values run same
    (λ i within. c.lend_run.ensures.values i (omega (arith, within, c.lend_run.ensures.same)) ∙ ap (λ (n : ℕ). last_value (row_cells i (take n (drop from cells)))) part) in
    run_kind rows columns (drop from cells) first c.lend_run.new.values c.requires.rows left fronts

pub loop-from-smaller : goal.loop-from-smaller
loop-from-smaller c =
    let rows = lent_rows c.args.rows.now in let columns = c.loop-from.columns.items in let left = c.loop-from.invariant.left in
    let cells = c.args.cells.now in let from = c.loop-from.from in let count = c.run_len.result in let item = c.index-cells-from.result in let first = get_or cells from item in
    let run : IsRun left.rests first (drop from cells) count = next_run rows columns cells from count first c.requires.rows left c.loop-from-test.true (get_or_default cells from item first c.loop-from-test.true) c.run_len.ensures in
    omega (arith, run.some, c.loop-from-test.true)

pub loop-from-preserved : goal.loop-from-preserved
loop-from-preserved c =
    let rows = lent_rows c.args.rows.now in let columns = c.loop-from.columns.items in let left = c.loop-from.invariant.left in
    let cells = c.args.cells.now in let from = c.loop-from.from in let count = c.run_len.result in let item = c.index-cells-from.result in let first = get_or cells from item in
    let run : IsRun left.rests first (drop from cells) count = next_run rows columns cells from count first c.requires.rows left c.loop-from-test.true (get_or_default cells from item first c.loop-from-test.true) c.run_len.ensures in
    let few : from + count ≤ length cells = omega (arith, run.few, length-drop from cells, c.loop-from.invariant.within) in
    let part : from + count - from ≡ count = omega arith in
    let same : length c.lend_run.new.values ≡ length left.rests = c.lend_run.ensures.same ∙ c.loop-from.invariant.same ∙ sym left.taken.same in
    let fronts : each_value c.lend_run.new.values ≡ map (front_value (heading_at first)) left.rests
    = run_values left.rests first (drop from cells) count c.lend_run.new.values run same
    (λ i within. c.lend_run.ensures.values i (omega (arith, within, c.lend_run.ensures.same)) ∙ ap (λ (n : ℕ). last_value (row_cells i (take n (drop from cells)))) part) in
    let column = c.in_ok-column_like.field-0 in
    let counted : length c.lend_run.new.values ≡ length rows = same ∙ left.taken.same in
    let taken : AreLeft rows (columns ++ column ∷ []) (drop count (drop from cells))
    = run_taken rows columns (drop from cells) first count column c.requires.rows left run c.in_ok-column_like.ensures.heading
    (subst (MeanCells column.bytes) counted c.in_ok-column_like.ensures.means) (c.in_ok-column_like.ensures.cells ∙ fronts) in
    record {
      within = few;
      same = counted;
      left = subst (λ (l : List BlockColumn). AreLeft rows l (drop (from + count) cells)) (sym c.in_ok-push.ensures.items)
          (subst (AreLeft rows (columns ++ column ∷ [])) (drop-drop count from cells) taken);
    }

pub returns : goal.returns
returns c =
    let cells = c.args.cells.now in let from = c.loop-from.from in
    none_left_over (lent_rows c.args.rows.now) c.loop-from.columns.items (drop from cells) c.loop-from.invariant.left (drop_all from cells (omega (arith, c.loop-from-test.false)))
