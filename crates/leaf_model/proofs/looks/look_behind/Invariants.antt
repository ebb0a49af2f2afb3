use Rattle.std.proofs.Common.{◌≡◌, ◌-◌, length}
use Rattle.std.specs.Vec.{vec_len}
use Rattle.leaf_model.specs.Fronts.{any_cells_at, front_of}
use Rattle.leaf_model.specs.Lent.{each_value}
use Rattle.leaf_model.specs.Looks.{filled}
use Rattle.leaf_model.proofs.LentLaws.{Passes}
use Rattle.leaf_model.proofs.looks.look_behind.Given as goal

abbrev pub invariant-loop : goal.invariant-loop
invariant-loop l = record {
  passes : Passes (any_cells_at (l.count - l.counter) l.rest) (any_cells_at l.count l.bytes);
  same : vec_len l.seen ≡ length l.sought;
  filled : filled l.sought (each_value l.seen.items) (front_of (any_cells_at (l.count - l.counter) l.rest)) ≡ filled l.sought (each_value l.fn.seen.items) (front_of (any_cells_at l.count l.bytes));
}
