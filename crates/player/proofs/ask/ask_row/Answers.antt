use Rattle.std.proofs.Common.{◌≡◌, List, subst, rules}
use Rattle.leaf_table.specs.Calls.{SeatView}
use Rattle.aggregator.specs.Partial.{SeatsGoOn}
use Rattle.player.proofs.AskRows.{asks_row, row_then}
use Rattle.player.proofs.ask.ask_row.Goals as goal

pub returns-clause-asked : goal.returns-clause-asked
returns-clause-asked g c =
    let v = c.index_mut-row.result.now in
    let same : c.deref_mut.result.now ≡ v.items = search rules in
    asks_row c.args.query.now c.args.tables.now c.args.table c.args.rows.now.items v c.deref_mut.result.now c.ask_all.new.seats c.ask_all.result
    c.requires.table c.index_mut-row.ensures.value same c.ask_all.ensures.asked

pub returns-clause-groups : goal.returns-clause-groups
returns-clause-groups g c = λ histories go.
    let v = c.index_mut-row.result.now in
    let same : c.deref_mut.result.now ≡ v.items = search rules in
    let then = row_then c.args.query.now c.args.tables.now c.args.table c.args.rows.now.items v c.deref_mut.result.now c.ask_all.new.seats c.ask_all.result
    c.requires.table c.index_mut-row.ensures.value same c.ask_all.ensures.asked in
    c.ask_all.ensures.groups histories (subst (λ (seats : List SeatView). SeatsGoOn seats histories) then go)
