use Rattle.leaf_table.specs.Lists.{lists_in}
use Rattle.leaf_table.specs.Fleet.{IsNewFleet}
use Rattle.leaf_table.proofs.fleet.FleetTables.new.Given as goal

abbrev pub invariant-loop-leaf : goal.invariant-loop-leaf
invariant-loop-leaf g l = IsNewFleet g.N.Founds.base l.leaf l.names l.share (lists_in l.tables.items) (lists_in l.stewards.items) (lists_in l.callers.items)
