use Rattle.std.proofs.Common.{◌≡◌, ℕ, ◌≤◌, length, Some, true, Vec, Global}
use Rattle.std.specs.Prelude.{slice_get, vec_capacity}
use Rattle.leaf_table.specs.Calls.{SeatView}
use Rattle.leaf_table.specs.Lists.{lists_in}
use Rattle.player.specs.Crew.{is_set}
use Rattle.player.specs.Lending.{RowsSplit}
use Rattle.player.proofs.lend.split_rows.Given as goal

-- the rows before the table's were split where they are marked; the others have their room
abbrev pub invariant-loop-table : goal.invariant-loop-table
invariant-loop-table l = record {
  splits : RowsSplit l.table (is_set l.marks) (lists_in l.fn.rows.items) (lists_in l.off.items) (lists_in l.rows.items);
  room : (table : ℕ) (v : Vec SeatView Global) → l.table ≤ table → slice_get l.off.items table ≡ Some v → is_set l.marks table ≡ true → length l.tables ≤ vec_capacity v;
}
