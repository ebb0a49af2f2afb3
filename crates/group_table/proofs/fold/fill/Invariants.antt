use Rattle.std.proofs.Common.{◌≡◌, ◌≤◌, ◌-◌, ◌+◌, ◌++◌, ℕ, List, drop, length, take}
use Rattle.std.specs.List.{AllByRecursion}
use Rattle.std.specs.Vec.{vec_len}
use Rattle.row_model.specs.declared.rows.Row.{Row}
use Rattle.leaf_model.specs.Groups.{groups}
use Rattle.leaf_model.specs.Lent.{lent_rows}
use Rattle.group_table.specs.Joined.{joined, IsWithin}
use Rattle.group_table.specs.Kept.{kept}
use Rattle.group_table.specs.Split.{IsSplit}
use Rattle.group_table.proofs.fold.fill.Given as goal

-- the tables are together that of the rows before and of the rows so far
abbrev pub invariant-loop-i : goal.invariant-loop-i
invariant-loop-i l = record {
  bound : l.i ≤ length (lent_rows l.rows);
  left : lent_rows l.left ≡ drop l.i (lent_rows l.rows);
  same : vec_len l.seen ≡ length l.sought.items;
  value : (xs : List Row) → l.fn.start ≡ groups l.query xs → joined l.tables.settled.items l.tables.fresh.items ≡ groups l.query (xs ++ kept l.horizon (take l.i (lent_rows l.rows)));
  split : (m : ℕ) → AllByRecursion (IsWithin m) l.fn.start → IsSplit (m + length (kept l.horizon (take l.i (lent_rows l.rows)))) l.query l.tables.settled.items l.tables.fresh.items;
}

abbrev pub decreases-loop-i : goal.decreases-loop-i
decreases-loop-i l = length (lent_rows l.rows) - l.i
