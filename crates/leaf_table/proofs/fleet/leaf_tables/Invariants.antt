use Rattle.leaf_table.specs.Lists.{lists_in}
use Rattle.leaf_table.specs.Fleet.{IsPartOfFleet}
use Rattle.leaf_table.proofs.fleet.leaf_tables.Given as goal

abbrev pub invariant-loop-name : goal.invariant-loop-name
invariant-loop-name g l = IsPartOfFleet g.N.Founds.base l.leaf l.names l.share l.name-index l.tables.items l.stewards.items (lists_in l.initial.callers.items) (lists_in l.callers.items)
