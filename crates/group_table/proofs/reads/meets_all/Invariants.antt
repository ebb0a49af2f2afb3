use Rattle.std.proofs.Common.{◌≡◌, ◌≤◌, ◌-◌, length, drop}
use Rattle.leaf_model.specs.Lent.{each_value}
use Rattle.group_table.specs.Reads.{all_met}
use Rattle.group_table.proofs.reads.meets_all.Given as goal

-- what is left decides
abbrev pub invariant-loop-i : goal.invariant-loop-i
invariant-loop-i l = record {
  bound : l.i ≤ length l.conds;
  left : all_met l.conds (each_value l.seen) ≡ all_met (drop l.i l.conds) (each_value (drop l.i l.seen));
}

abbrev pub decreases-loop-i : goal.decreases-loop-i
decreases-loop-i l = length l.conds - l.i
