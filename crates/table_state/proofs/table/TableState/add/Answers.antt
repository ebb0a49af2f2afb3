use Rattle.std.proofs.Common.{◌≡◌, ◌≤◌, ◌+◌, ◌-◌, ◌++◌, ℕ, List, Option, Some, length, drop, take, ap₂, subst, arith, rules}
use Rattle.row_model.specs.declared.rows.Row.{Row}
use Rattle.leaf_model.specs.declared.writes.Write.TheVariants.{Add}
use Rattle.leaf_model.specs.Content.{kept_count, late_count, rows_from}
use Rattle.row_records.specs.Records.{LogRecord}
use Rattle.row_records.specs.Pending.{with_push}
use Rattle.row_blocks.specs.Held.{columns_count, rows_and_cells}
use Rattle.table_state.specs.Stored.{in_runs, sealed_rows}
use Rattle.table_state.specs.Tables.{Table, columns_most, most_rows, no_store, table_with_write}
use Rattle.table_state.proofs.Counting.{add_columns}
use Rattle.table_state.proofs.Ahead.{sealed_ahead}
use Rattle.table_state.proofs.Stood.{add_rows, add_stands, held_count}
use Rattle.table_state.proofs.table.TableState.add.Goals as goal

pub invariant_of-self-2 : goal.invariant_of-self-2
invariant_of-self-2 c =
    let t = c.self.inside in let h = t.horizon in let all = c.prepare.new.tail in
    let put : all ≡ t.tail ++ rows_from h c.args.rows = search rules in
    let rest : c.drop_runs.new.tail ≡ drop (in_runs (length all)) all = search rules in
    let count : c.drop_runs.result ≡ in_runs (length all) = search rules in
    let few : t.live + length t.tail + length (rows_from h c.args.rows) ≤ most_rows = search rules in (
      add_stands t.blocks t.skip t.tail h t.live c.self.invariant.0 c.args.rows c.requires.rows all put c.prepare.new.blocks c.in_ok-kept.ensures.sealed c.drop_runs.new.tail rest c.drop_runs.result count few,
      sealed_ahead t.ahead t.blocks t.skip h (take (in_runs (length all)) all) c.prepare.new.blocks c.in_ok-kept.ensures.sealed c.self.invariant.1,
    )

pub returns-clause-does : goal.returns-clause-does
returns-clause-does c =
    let t = c.self.inside in let h = t.horizon in let all = c.prepare.new.tail in
    let put : all ≡ t.tail ++ rows_from h c.args.rows = search rules in
    let rest : c.drop_runs.new.tail ≡ drop (in_runs (length all)) all = search rules in
    let kept : c.in_ok-kept.kept ≡ length (rows_from h c.args.rows) = search rules in
    let len : c.len.result ≡ length c.args.rows = search rules in
    let pushed : c.push.new.self ≡ Some (with_push c.args.table.now (Add c.args.rows) t.pending) = search rules in
    let table : Table = record { contents = record { rows = sealed_rows c.prepare.new.blocks t.skip h ++ c.drop_runs.new.tail; horizon = h }; writes = t.writes + 1; pending = c.push.new.self; store = no_store } in
    let made : List Row → Option LogRecord → Table = λ rows p. record { contents = record { rows = rows; horizon = h }; writes = t.writes + 1; pending = p; store = no_store } in
    let P : Table → Type 0
    = λ x. (length x.contents.rows + kept_count x.contents c.args.rows ≤ most_rows) × (c.in_ok-kept.kept ≡ kept_count x.contents c.args.rows)
    × (c.len.result - c.in_ok-kept.kept ≡ late_count x.contents c.args.rows) × (table ≡ table_with_write c.args.table.now x (Add c.args.rows)) in
    subst P c.self.view_is (
      omega (arith, held_count t.blocks t.skip t.tail h t.live c.self.invariant.0, c.in_ok-kept.ensures.fits, kept),
      kept,
      ap₂ (λ (m n : ℕ). m - n) len kept,
      ap₂ made
          (add_rows t.blocks t.skip t.tail h t.live c.self.invariant.0 c.args.rows c.requires.rows all put c.prepare.new.blocks c.in_ok-kept.ensures.sealed c.drop_runs.new.tail rest)
          pushed,
    )

pub returns-clause-columns : goal.returns-clause-columns
returns-clause-columns c =
    let t = c.self.inside in let h = t.horizon in let all = c.prepare.new.tail in
    let put : all ≡ t.tail ++ rows_from h c.args.rows = search rules in
    let rest : c.drop_runs.new.tail ≡ drop (in_runs (length all)) all = search rules in
    subst (λ (x : Table). columns_count c.prepare.new.blocks + rows_and_cells c.drop_runs.new.tail ≤ columns_most x.store + rows_and_cells c.args.rows) c.self.view_is
    (add_columns t.blocks t.tail c.args.rows all h put c.prepare.new.blocks c.in_ok-kept.ensures.sealed c.drop_runs.new.tail rest)
