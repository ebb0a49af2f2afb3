-- A leaf as a start opened it, without its berth.
use Rattle.std.specs.Prelude.{ℕ, List}
use Rattle.table_state.specs.Tables.{Table}
use Rattle.disk_backup.specs.State.{LogState}

-- the names of its tables, the tables in the same order, a bound on the columns of each, and the log
pub record OpenedLeaf : Type 0 where
  pub names : List (List ℕ)
  pub tables : List Table
  pub columns : List ℕ
  pub log : LogState
