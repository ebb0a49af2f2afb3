use Rattle.std.proofs.Common.{◌≡◌, take}
use Rattle.leaf_model.specs.Lent.{each_cells, each_value, lent_cell}
use Rattle.row_blocks.specs.Headings.{heading_of}
use Rattle.row_blocks.specs.Merging.{ArePassed, fronts}
use Rattle.row_blocks.proofs.fronts.values_under.Given as goal

abbrev pub invariant-loop-rest : goal.invariant-loop-rest
invariant-loop-rest l = record {
  values : each_value l.values.items ≡ fronts (heading_of (lent_cell l.like)) (take l.rest-index l.rests);
  passed : ArePassed (heading_of (lent_cell l.like)) (each_cells (take l.rest-index l.rests)) (each_cells l.nexts.items);
}
