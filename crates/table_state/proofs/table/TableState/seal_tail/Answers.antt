use Rattle.std.proofs.Common.{◌≡◌, ◌≤◌, ◌+◌, ◌++◌, ℕ, List, [], length, sym, ap, subst, ◌∙◌, rules}
use Rattle.row_model.specs.declared.rows.Row.{Row}
use Rattle.row_blocks.specs.Held.{columns_count, rows_and_cells}
use Rattle.table_state.specs.Stored.{StoreStands, sealed_rows}
use Rattle.table_state.specs.Tables.{Table, bare, columns_most, no_store}
use Rattle.table_state.proofs.Counting.{sealed_columns}
use Rattle.table_state.proofs.Ahead.{sealed_ahead}
use Rattle.table_state.proofs.Stood.{tail_rows, tail_stands}
use Rattle.table_state.proofs.table.TableState.seal_tail.Goals as goal

pub invariant_of-self-2 : goal.invariant_of-self-2
invariant_of-self-2 c =
    let t = c.self.inside in let now = c.seal_behind.new.blocks in
    let count : c.len-2.result ≡ length t.tail = search rules in (
      subst (λ (l : List Row). StoreStands now t.skip l t.horizon (t.live + c.len-2.result)) (sym c.clear.ensures)
          (subst (λ (n : ℕ). StoreStands now t.skip [] t.horizon (t.live + n)) (sym count)
          (tail_stands t.blocks t.skip t.tail t.horizon t.live c.self.invariant.0 now c.in_ok-seal_behind.ensures.sealed)),
      sealed_ahead t.ahead t.blocks t.skip t.horizon t.tail now c.in_ok-seal_behind.ensures.sealed c.self.invariant.1,
    )

pub returns-clause-does : goal.returns-clause-does
returns-clause-does c =
    let t = c.self.inside in let now = c.seal_behind.new.blocks in (
      ap (λ (rows : List Row). record { contents = record { rows = rows; horizon = t.horizon }; writes = t.writes; pending = t.pending; store = no_store })
          (ap (λ (l : List Row). sealed_rows now t.skip t.horizon ++ l) c.clear.ensures
          ∙ tail_rows t.blocks t.skip t.tail t.horizon t.live c.self.invariant.0 now c.in_ok-seal_behind.ensures.sealed)
          ∙ ap (λ (x : Table). bare x) c.self.view_is,
      c.clear.ensures,
    )

pub returns-clause-columns : goal.returns-clause-columns
returns-clause-columns c =
    let t = c.self.inside in let now = c.seal_behind.new.blocks in
    subst (λ (x : Table). columns_count now + rows_and_cells c.clear.new.self ≤ columns_most x.store) c.self.view_is
    (sealed_columns t.blocks now t.tail c.clear.new.self c.in_ok-seal_behind.ensures.sealed c.clear.ensures)
