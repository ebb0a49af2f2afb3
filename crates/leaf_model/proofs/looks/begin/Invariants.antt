use Rattle.std.proofs.Common.{◌≡◌, ◌≤◌, ◌-◌, length, take}
use Rattle.std.specs.Vec.{vec_len}
use Rattle.leaf_model.specs.Lent.{each_value}
use Rattle.leaf_model.specs.Looks.{looks_begun}
use Rattle.leaf_model.proofs.looks.begin.Given as goal

abbrev pub invariant-loop-i : goal.invariant-loop-i
invariant-loop-i l = record {
  bound : l.i ≤ length l.sought;
  same : vec_len l.seen ≡ length l.sought;
  so_far : each_value (take l.i l.seen.items) ≡ looks_begun l.time (take l.i l.sought);
}

abbrev pub decreases-loop-i : goal.decreases-loop-i
decreases-loop-i l = length l.sought - l.i
