use Rattle.std.proofs.Common.{◌≡◌, ◌≤◌, is_some, length, map, take}
use Rattle.leaf_model.specs.Lent.{each_cells, lent_cell}
use Rattle.column_bytes.specs.Cells.{Entries}
use Rattle.column_bytes.specs.Coding.{IsCoding}
use Rattle.dictionaries.specs.Dictionary.{AreTexts}
use Rattle.row_blocks.specs.Headings.{heading_of}
use Rattle.row_blocks.specs.Merging.{ArePassed, fronts}
use Rattle.row_blocks.proofs.fronts.codes_under.Given as goal

abbrev pub invariant-loop-rest : goal.invariant-loop-rest
invariant-loop-rest l = record {
  texts : AreTexts l.set;
  few : length l.set ≤ l.rest-index;
  coding : IsCoding (fronts (heading_of (lent_cell l.like)) (take l.rest-index l.rests)) l.codes.items (Entries l.set);
  there : map is_some (fronts (heading_of (lent_cell l.like)) (take l.rest-index l.rests)) ≡ l.present.items;
  passed : ArePassed (heading_of (lent_cell l.like)) (each_cells (take l.rest-index l.rests)) (each_cells l.nexts.items);
}
