-- The invariant of a view of a block.
use Rattle.std.specs.Prelude.{ℕ, ◌≤◌, List, ℤ, FitsSigned}
use Rattle.std.specs.Int.{w64}
use Rattle.std.specs.List.{AllByRecursion}
use Rattle.row_blocks.specs.Blocks.{AreTimes}
use Rattle.block_scan.specs.declared.reading.ReadColumn.{ReadColumn}
use Rattle.block_scan.specs.Reads.{IsRead}
use Rattle.block_scan.specs.Timed.{AreBetween}

pub record IsViewed (n cut : ℕ) (from low high : ℤ) (t : ReadColumn) (read : List ReadColumn) : Type 0 where
  pub few : n ≤ 65536
  pub skip : cut ≤ n
  pub horizon : FitsSigned w64 from
  pub least : FitsSigned w64 low
  pub greatest : FitsSigned w64 high
  pub timed : AreTimes n t.column.now
  pub times : IsRead n t
  pub between : AreBetween n t.column.now low high
  pub others : AllByRecursion (IsRead n) read
