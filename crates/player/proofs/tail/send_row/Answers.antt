use Rattle.std.proofs.Common.{◌≡◌, sym, ◌∙◌, rules}
use Rattle.player.proofs.SendRows.{none_called, sends_row}
use Rattle.player.proofs.tail.send_row.Goals as goal

pub returns-clause-sends : goal.returns-clause-sends
returns-clause-sends g c =
    let v = c.index_mut-row.result.now in
    let same : c.deref_mut.result.now ≡ v.items = search rules in
    sends_row c.args.tables.now c.args.table c.args.key c.args.rows.now c.args.seats.now.items v c.deref_mut.result.now c.send.new.seats c.requires.table c.index_mut-row.ensures.value same
    (c.send.ensures.seats.count ∙ sym c.requires.seats.count) c.send.result _ c.words_of-words.ensures c.send.ensures.tails c.send.ensures.calls c.send.ensures.over

pub returns-clause-refused : goal.returns-clause-refused
returns-clause-refused g c = λ err.
    let v = c.index_mut-row.result.now in
    let same : c.deref_mut.result.now ≡ v.items = search rules in
    none_called c.args.tables.now c.args.table c.args.key c.args.rows.now c.args.seats.now.items v c.deref_mut.result.now c.send.new.seats c.requires.table c.index_mut-row.ensures.value same
    (c.send.ensures.seats.count ∙ sym c.requires.seats.count) (c.send.ensures.refused err)
