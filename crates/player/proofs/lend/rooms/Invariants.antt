use Rattle.std.proofs.Common.{◌≡◌, length}
use Rattle.player.specs.Crew.{is_set}
use Rattle.player.specs.Lending.{AreRoomy}
use Rattle.player.proofs.lend.rooms.Given as goal

-- the rows before the table's are there
abbrev pub invariant-loop-table : goal.invariant-loop-table
invariant-loop-table l = record {
  count : length l.rows.items ≡ l.table;
  roomy : AreRoomy (is_set l.marks) l.count l.rows.items;
}
