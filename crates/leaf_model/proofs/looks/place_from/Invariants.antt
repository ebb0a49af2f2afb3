use Rattle.std.proofs.Common.{◌≡◌, ◌≤◌, ◌-◌, List, Option, length}
use Rattle.row_model.specs.declared.rows.Value.{Value}
use Rattle.row_model.specs.declared.rows.Cell.{Cell}
use Rattle.leaf_model.specs.declared.lent_cells.LentValue.{LentValue}
use Rattle.leaf_model.specs.Looks.{filled_from}
use Rattle.leaf_model.proofs.looks.place_from.Given as goal

-- the places between are passed
abbrev pub invariant-loop-i : goal.invariant-loop-i
invariant-loop-i l = record {
  bound : l.i ≤ length l.sought;
  onward : l.from ≤ l.i;
  passed : (items : List (Option LentValue)) (value : Value) (others : List Cell) → length items ≡ length l.sought → filled_from l.sought items l.i (record { name = l.name; value = value }) others ≡ filled_from l.sought items l.from (record { name = l.name; value = value }) others;
}

abbrev pub decreases-loop-i : goal.decreases-loop-i
decreases-loop-i l = length l.sought - l.i
