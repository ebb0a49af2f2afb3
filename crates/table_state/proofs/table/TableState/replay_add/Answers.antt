use Rattle.std.proofs.Common.{◌≡◌, ◌≤◌, ◌+◌, ◌++◌, List, length, drop, take, ap, subst, arith, length-append, rules}
use Rattle.row_model.specs.declared.rows.Row.{Row}
use Rattle.leaf_model.specs.declared.writes.Write.TheVariants.{Add}
use Rattle.leaf_model.specs.Content.{content_after, rows_from}
use Rattle.row_blocks.specs.Held.{columns_count, rows_and_cells}
use Rattle.table_state.specs.Stored.{in_runs, sealed_rows}
use Rattle.table_state.specs.Tables.{Table, columns_most, most_rows, no_store, replayed}
use Rattle.table_state.proofs.Counting.{add_columns}
use Rattle.table_state.proofs.Ahead.{sealed_ahead}
use Rattle.table_state.proofs.Stood.{add_rows, add_stands, held_count}
use Rattle.table_state.proofs.table.TableState.replay_add.Goals as goal

pub invariant_of-self-2 : goal.invariant_of-self-2
invariant_of-self-2 c =
    let t = c.self.inside in let h = t.horizon in let all = c.prepare.new.tail in
    let put : all ≡ t.tail ++ rows_from h c.args.rows = search rules in
    let rest : c.drop_runs.new.tail ≡ drop (in_runs (length all)) all = search rules in
    let count : c.drop_runs.result ≡ in_runs (length all) = search rules in
    let few : t.live + length t.tail + length (rows_from h c.args.rows) ≤ most_rows = search rules in (
      add_stands t.blocks t.skip t.tail h t.live c.self.invariant.0 c.args.rows c.requires.rows all put c.prepare.new.blocks c.in_ok-prepare.ensures.sealed c.drop_runs.new.tail rest c.drop_runs.result count few,
      sealed_ahead t.ahead t.blocks t.skip h (take (in_runs (length all)) all) c.prepare.new.blocks c.in_ok-prepare.ensures.sealed c.self.invariant.1,
    )

pub returns-clause-does : goal.returns-clause-does
returns-clause-does c =
    let t = c.self.inside in let h = t.horizon in let all = c.prepare.new.tail in
    let put : all ≡ t.tail ++ rows_from h c.args.rows = search rules in
    let rest : c.drop_runs.new.tail ≡ drop (in_runs (length all)) all = search rules in
    let few : t.live + length t.tail + length (rows_from h c.args.rows) ≤ most_rows = search rules in
    let now = add_rows t.blocks t.skip t.tail h t.live c.self.invariant.0 c.args.rows c.requires.rows all put c.prepare.new.blocks c.in_ok-prepare.ensures.sealed c.drop_runs.new.tail rest in
    let table : Table = record { contents = record { rows = sealed_rows c.prepare.new.blocks t.skip h ++ c.drop_runs.new.tail; horizon = h }; writes = t.writes + 1; pending = t.pending; store = no_store } in
    let made : List Row → Table = λ rows. record { contents = record { rows = rows; horizon = h }; writes = t.writes + 1; pending = t.pending; store = no_store } in
    let P : Table → Type 0 = λ x. (length (content_after x.contents (Add c.args.rows)).rows ≤ most_rows) × (table ≡ replayed x (Add c.args.rows)) in
    subst P c.self.view_is (
      omega (arith, held_count t.blocks t.skip t.tail h t.live c.self.invariant.0, length-append (sealed_rows t.blocks t.skip h ++ t.tail) (rows_from h c.args.rows), few),
      ap made now,
    )

pub returns-clause-columns : goal.returns-clause-columns
returns-clause-columns c =
    let t = c.self.inside in let h = t.horizon in let all = c.prepare.new.tail in
    let put : all ≡ t.tail ++ rows_from h c.args.rows = search rules in
    let rest : c.drop_runs.new.tail ≡ drop (in_runs (length all)) all = search rules in
    subst (λ (x : Table). columns_count c.prepare.new.blocks + rows_and_cells c.drop_runs.new.tail ≤ columns_most x.store + rows_and_cells c.args.rows) c.self.view_is
    (add_columns t.blocks t.tail c.args.rows all h put c.prepare.new.blocks c.in_ok-prepare.ensures.sealed c.drop_runs.new.tail rest)
