use Rattle.std.proofs.Common.{◌≡◌, ◌++◌, drop, map}
use Rattle.std.specs.List.{AllByRecursion}
use Rattle.table_state.specs.Tables.{Table, bare, columns_most}
use Rattle.row_model.specs.Names.{AreDistinct}
use Rattle.region_layout.specs.Images.{TableImage, table_of}
use Rattle.adopt.specs.Finishing.{IsMade}
use Rattle.adopt.proofs.Arranging.{each_told}
use Rattle.adopt.proofs.tables.arranged.Given as goal

-- the tables so far, and then those of the names that are left, are all tables; and so are their numbers of columns
abbrev pub invariant-loop-name : goal.invariant-loop-name
invariant-loop-name l = record {
  so_far : map bare l.tables.items ++ each_told table_of (drop l.name-index l.names) l.drained.items ≡ each_told table_of l.fn.names l.fn.drained.items;
  columns : map (λ (t : Table). columns_most t.store) l.tables.items ++ each_told (λ (t : TableImage). t.columns) (drop l.name-index l.names) l.drained.items
      ≡ each_told (λ (t : TableImage). t.columns) l.fn.names l.fn.drained.items;
  distinct : AreDistinct (drop l.name-index l.names);
  each : AllByRecursion IsMade l.drained.items;
}
