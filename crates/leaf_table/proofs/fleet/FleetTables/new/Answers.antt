use Rattle.leaf_table.specs.Lists.{lists_in}
use Rattle.leaf_table.proofs.Places.{fleet_more}
use Rattle.leaf_table.proofs.fleet.FleetTables.new.Goals as goal

pub loop-leaf-preserved : goal.loop-leaf-preserved
loop-leaf-preserved g c =
    fleet_more g.N.Founds.base c.args.names.now c.args.share c.loop-leaf.leaf c.loop-leaf.tables.items c.push.new.self.items c.loop-leaf.stewards.items c.push-in-loop-leaf.new.self.items (lists_in c.loop-leaf.callers.items) (lists_in c.leaf_tables.new.callers.items) c.in_ok-of_leaf.of_leaf c.in_ok-of_leaf.seats
    c.loop-leaf.invariant c.in_ok-of_leaf.ensures c.in_ok-push.ensures.items c.in_ok-push-2.ensures.items
