use Rattle.std.proofs.Common.{option_map, take}
use Rattle.leaf_model.specs.Lent.{each_cells, lent_cell}
use Rattle.row_blocks.specs.Merging.{IsEarliest}
use Rattle.row_blocks.proofs.fronts.earliest_of.Given as goal

abbrev pub invariant-loop-rest : goal.invariant-loop-rest
invariant-loop-rest l = IsEarliest (option_map lent_cell l.earliest) (each_cells (take l.rest-index l.rests))
