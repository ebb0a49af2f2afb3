use Rattle.std.proofs.Common.{rules, ◌≡◌, arith}
use Rattle.leaf_table.specs.Lists.{lists_in}
use Rattle.leaf_table.proofs.Places.{part_more}
use Rattle.leaf_table.proofs.fleet.leaf_tables.Goals as goal

pub loop-name-preserved : goal.loop-name-preserved
loop-name-preserved g c =
    let made = c.in_ok-shared in
    let n_is : c.len-table.result ≡ c.loop-name.name-index = omega arith in
    part_more g.N.Founds.base c.args.names.now c.args.share c.args.leaf c.loop-name.name-index c.len-table.result c.as_slice-name-items.result.now c.name-item.result c.loop-name.tables.items c.push.new.self.items c.loop-name.stewards.items c.push-in-loop-name.new.self.items (lists_in c.args.callers.now.items) (lists_in c.loop-name.callers.items) (lists_in c.put.new.rows.items) made.shared made.steward made.caller
    c.loop-name.invariant c.requires.callers c.as_slice-name-items.ensures c.loop-name-test.true c.name-item.is n_is
    (record { numbers = made.ensures.numbers; named = made.ensures.named; founded = search rules; unused = made.ensures.steward; unused_caller = made.ensures.caller; shut = made.ensures.shut; seats = made.ensures.seats })
    c.in_ok-push.ensures.items c.in_ok-push-2.ensures.items c.in_ok-put.ensures
