use Rattle.std.proofs.Common.{◌≡◌, ◌+◌, ◌<◌, ℕ, List, length, refl, sym, subst, ◌∙◌, arith}
use Rattle.leaf_table.specs.Calls.{SeatView}
use Rattle.leaf_table.specs.Lists.{lists_in}
use Rattle.player.specs.Crew.{is_set}
use Rattle.player.specs.Lending.{MaySplit, RowSplits, RowsSplit}
use Rattle.player.proofs.Calling.{stands_at}
use Rattle.player.proofs.Columns.{lists_count, lists_set, row_is}
use Rattle.player.proofs.Lent.{get_other, rows_empty, rows_more, rows_none}
use Rattle.player.proofs.lend.split_rows.Goals as goal

pub loop-table-init : goal.loop-table-init
loop-table-init c =
    let rows = c.args.rows.now.items in
    let off = c.args.off.now.items in
    record {
      splits = rows_none (is_set c.args.marks.now) (lists_in rows) (lists_in off) (omega (arith, lists_count off, lists_count rows, c.requires.counts.1))
          (rows_empty off (λ table v at. (c.requires.room.each table v at).0));
      room = λ table v above at. (c.requires.room.each table v at).1;
    }

pub split_row_if-requires-clause-may : goal.split_row_if-requires-clause-may
split_row_if-requires-clause-may c = λ set.
    let was = c.loop-table in
    let rows = was.rows.items in
    let v = c.index_mut.result.now in
    let low : was.table < length rows = omega (arith, c.loop-table-test.true, c.requires.counts.0, was.invariant.splits.counts.0, lists_count rows, lists_count c.args.rows.now.items) in
    subst (MaySplit c.args.tables.now was.table) (sym (row_is rows was.table v low c.index_mut.ensures.value ∙ (was.invariant.splits.others was.table (omega arith)).0)) (c.requires.may was.table set)

pub split_row_if-requires-clause-none : goal.split_row_if-requires-clause-none
split_row_if-requires-clause-none c =
    let was = c.loop-table in
    let off = was.off.items in
    let v = c.index_mut-in-loop-table.result.now in
    let low : was.table < length off = omega (arith, c.loop-table-test.true, c.requires.counts.0, was.invariant.splits.counts.1, lists_count off, lists_count c.args.rows.now.items) in
    row_is off was.table v low c.index_mut-in-loop-table.ensures.value ∙ (was.invariant.splits.others was.table (omega arith)).1

pub split_row_if-requires-clause-room : goal.split_row_if-requires-clause-room
split_row_if-requires-clause-room c = λ set.
    let was = c.loop-table in
    let off = was.off.items in
    let v = c.index_mut-in-loop-table.result.now in
    let low : was.table < length off = omega (arith, c.loop-table-test.true, c.requires.counts.0, was.invariant.splits.counts.1, lists_count off, lists_count c.args.rows.now.items) in
    was.invariant.room was.table v (omega arith) (stands_at off was.table v low c.index_mut-in-loop-table.ensures.value) set

pub loop-table-preserved : goal.loop-table-preserved
loop-table-preserved c =
    let was = c.loop-table in
    let rows = was.rows.items in
    let off = was.off.items in
    let v = c.index_mut.result.now in
    let u = c.index_mut-in-loop-table.result.now in
    let splits = was.invariant.splits in
    let low : was.table < length rows = omega (arith, c.loop-table-test.true, c.requires.counts.0, splits.counts.0, lists_count rows, lists_count c.args.rows.now.items) in
    let inside : was.table < length off = omega (arith, c.loop-table-test.true, c.requires.counts.0, splits.counts.1, lists_count off, lists_count c.args.rows.now.items) in
    let then = c.split_row_if in
    record {
      splits = rows_more was.table (was.table + 1) (is_set c.args.marks.now) (lists_in c.args.rows.now.items) (lists_in off) (lists_in rows) _ _ then.new.off.items then.new.seats.items (omega arith)
          (omega (arith, low, splits.counts.0, lists_count rows)) splits
          (subst (λ (vs : List SeatView). RowSplits (is_set c.args.marks.now was.table) vs then.new.off.items then.new.seats.items) (row_is rows was.table v low c.index_mut.ensures.value) then.ensures.splits)
          (lists_set off was.table u inside c.index_mut-in-loop-table.ensures.value then.new.off then.new.off.items refl)
          (lists_set rows was.table v low c.index_mut.ensures.value then.new.seats then.new.seats.items refl);
      room = λ table w above at set. was.invariant.room table w (omega (arith, above)) (get_other off was.table table then.new.off w (omega (arith, above)) at) set;
    }

pub returns : goal.returns
returns c =
    let was = c.loop-table in
    let all : was.table ≡ length c.args.marks.now = omega (arith, c.loop-table-test.false, was.auto.table-end) in
    record { splits = subst (λ (n : ℕ). RowsSplit n (is_set c.args.marks.now) (lists_in c.args.rows.now.items) (lists_in was.off.items) (lists_in was.rows.items)) all was.invariant.splits }
