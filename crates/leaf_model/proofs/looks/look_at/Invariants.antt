use Rattle.std.proofs.Common.{◌≡◌, length}
use Rattle.std.specs.Vec.{vec_len}
use Rattle.leaf_model.specs.Lent.{each_value, lent_cells}
use Rattle.leaf_model.specs.Looks.{looks_begun, filled}
use Rattle.leaf_model.proofs.looks.look_at.Given as goal

abbrev pub invariant-loop-cell : goal.invariant-loop-cell
invariant-loop-cell l = record {
  same : vec_len l.seen ≡ length l.sought;
  filled : filled l.sought (each_value l.seen.items) (lent_cells l.left) ≡ filled l.sought (looks_begun l.row.time l.sought) (lent_cells l.row.cells);
}

abbrev pub decreases-loop-cell : goal.decreases-loop-cell
decreases-loop-cell l = length (lent_cells l.left)
