use Rattle.std.proofs.Common.{◌≡◌, ◌<◌, ◌≤◌, ◌+◌, ◌-◌, ◌++◌, ℤ, List, length, drop, to_z, of_z, ap, subst, ◌∙◌, rules}
use Rattle.std.specs.Int.{w64}
use Rattle.row_model.specs.declared.rows.Row.{Row}
use Rattle.leaf_model.specs.declared.writes.Write.TheVariants.{Keep}
use Rattle.row_blocks.specs.Held.{columns_count, rows_and_cells}
use Rattle.table_state.specs.Stored.{sealed_rows}
use Rattle.table_state.specs.Tables.{Table, columns_most, no_store, replayed}
use Rattle.table_state.proofs.Counting.{kept_columns}
use Rattle.table_state.proofs.Stood.{kept_rows}
use Rattle.table_state.proofs.table.TableState.leave_last.Goals as goal

pub returns-clause-written : goal.returns-clause-written
returns-clause-written c =
    let t = c.self.inside in let h = t.horizon in let gone = c.cut_for-gone.result in let first = c.min-first.result in
    let left = c.cut_front-cut.new.blocks in let cut = c.cut_front-cut.result.skip in
    let is : gone ≡ t.live + length t.tail - c.args.n = search rules in
    let low : first ≤ gone = search rules in
    let high : first ≤ t.live = search rules in
    let full : first < t.live → first ≡ gone = λ less. search (rules, less) in
    let at : to_z w64 (of_z w64 h) ≡ h = search rules in
    let front = subst (λ (z : ℤ). sealed_rows left cut z ≡ drop first (sealed_rows t.blocks t.skip z)) at c.cut_front-cut.ensures.rows in
    let rest : c.drop_front.new.tail ≡ drop (gone - first) t.tail = search rules in
    ap (λ (rows : List Row). record { contents = record { rows = rows; horizon = h }; writes = t.writes + 1; pending = t.pending; store = no_store })
    (ap (λ (l : List Row). sealed_rows left cut h ++ l) rest
    ∙ kept_rows t.blocks t.skip t.tail h t.live c.self.invariant.0 c.args.n gone first is low high full left cut front)
    ∙ ap (λ (x : Table). replayed x (Keep c.args.n)) c.self.view_is

pub returns-clause-columns : goal.returns-clause-columns
returns-clause-columns c =
    let t = c.self.inside in let left = c.cut_front-cut.new.blocks in let gone = c.cut_for-gone.result in let first = c.min-first.result in
    let rest : c.drop_front.new.tail ≡ drop (gone - first) t.tail = search rules in
    subst (λ (x : Table). columns_count left + rows_and_cells c.drop_front.new.tail ≤ columns_most x.store) c.self.view_is
    (kept_columns t.blocks left t.tail c.drop_front.new.tail c.cut_front-cut.ensures.columns (gone - first) rest)
