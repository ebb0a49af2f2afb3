use Rattle.std.proofs.Common.{◌+◌, ◌<◌, List, length, refl, sym, subst, ◌∙◌, arith}
use Rattle.leaf_table.specs.Calls.{SeatView}
use Rattle.leaf_table.specs.Lists.{lists_in, row}
use Rattle.player.specs.Returning.{JoinsFrom, MayJoin}
use Rattle.player.proofs.Columns.{lists_count, lists_set, row_is}
use Rattle.player.proofs.Returned.{joined_more}
use Rattle.player.proofs.take_back.join_rows.Goals as goal

pub join_row-requires : goal.join_row-requires
join_row-requires c =
    let was = c.loop-table in
    let rows = was.rows.items in
    let offs = was.others.items in
    let v = c.index_mut.result.now in
    let u = c.index_mut-in-loop-table.result.now in
    let joins = was.invariant.joins in
    let below : was.table < length c.args.rows.now.items = omega (arith, c.loop-table-test.true, c.len-table-end.ensures, c.args.rows.now.ok.0) in
    let low : was.table < length rows = omega (arith, below, joins.counts.0, lists_count rows, lists_count c.args.rows.now.items) in
    let inside : was.table < length offs = omega (arith, below, c.requires.counts.0, joins.counts.1, lists_count offs, lists_count c.args.others.now.items) in
    let old = joins.others was.table (omega arith) in
    record {
      may = subst (λ (vs : List SeatView). MayJoin c.args.tables.now was.table vs u.items) (sym (row_is rows was.table v low c.index_mut.ensures.value ∙ old.0))
          (subst (λ (vs : List SeatView). MayJoin c.args.tables.now was.table (row (lists_in c.args.rows.now.items) was.table) vs) (sym (row_is offs was.table u inside c.index_mut-in-loop-table.ensures.value ∙ old.1)) (c.requires.may was.table below));
    }

pub loop-table-preserved : goal.loop-table-preserved
loop-table-preserved c =
    let was = c.loop-table in
    let rows = was.rows.items in
    let offs = was.others.items in
    let v = c.index_mut.result.now in
    let u = c.index_mut-in-loop-table.result.now in
    let joins = was.invariant.joins in
    let below : was.table < length c.args.rows.now.items = omega (arith, c.loop-table-test.true, c.len-table-end.ensures, c.args.rows.now.ok.0) in
    let low : was.table < length rows = omega (arith, below, joins.counts.0, lists_count rows, lists_count c.args.rows.now.items) in
    let inside : was.table < length offs = omega (arith, below, c.requires.counts.0, joins.counts.1, lists_count offs, lists_count c.args.others.now.items) in
    let then = c.join_row in
    record {
      joins = joined_more was.table (was.table + 1) (lists_in c.args.rows.now.items) (lists_in c.args.others.now.items) (lists_in rows) (lists_in offs) _ _ then.new.seats.items then.new.others.items (omega arith)
          (omega (arith, below, lists_count c.args.rows.now.items)) joins
          (subst (λ (vs : List SeatView). JoinsFrom 0 vs (row (lists_in offs) was.table) then.new.seats.items) (row_is rows was.table v low c.index_mut.ensures.value)
          (subst (λ (vs : List SeatView). JoinsFrom 0 v.items vs then.new.seats.items) (row_is offs was.table u inside c.index_mut-in-loop-table.ensures.value) then.ensures.joins))
          (lists_set rows was.table v low c.index_mut.ensures.value then.new.seats then.new.seats.items refl)
          (lists_set offs was.table u inside c.index_mut-in-loop-table.ensures.value then.new.others then.new.others.items refl);
    }
