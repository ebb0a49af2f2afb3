use Rattle.std.proofs.Common.{◌≡◌, take}
use Rattle.leaf_model.specs.Lent.{each_value}
use Rattle.column_bytes.proofs.column.lend_all.Given as goal

abbrev pub invariant-loop-cell : goal.invariant-loop-cell
invariant-loop-cell l = each_value l.lent.items ≡ take l.cell-index l.cells
