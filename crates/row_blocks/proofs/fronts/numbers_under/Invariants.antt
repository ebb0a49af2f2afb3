use Rattle.std.proofs.Common.{◌≡◌, is_some, map, take}
use Rattle.leaf_model.specs.Lent.{each_cells, lent_cell}
use Rattle.column_bytes.specs.Coding.{AreIntegers}
use Rattle.row_blocks.specs.Headings.{heading_of}
use Rattle.row_blocks.specs.Merging.{ArePassed, fronts}
use Rattle.row_blocks.proofs.fronts.numbers_under.Given as goal

abbrev pub invariant-loop-rest : goal.invariant-loop-rest
invariant-loop-rest l = record {
  integers : AreIntegers (fronts (heading_of (lent_cell l.like)) (take l.rest-index l.rests)) l.integers.items;
  there : map is_some (fronts (heading_of (lent_cell l.like)) (take l.rest-index l.rests)) ≡ l.present.items;
  passed : ArePassed (heading_of (lent_cell l.like)) (each_cells (take l.rest-index l.rests)) (each_cells l.nexts.items);
}
