-- A log as its owner knows it.
use Rattle.std.specs.Prelude.{ℕ, Bool, Option}
use Rattle.row_records.specs.Records.{LogRecord}

-- where the log ends, which record it is owed, and whether that record is known to be on the disk, after the end's gate
pub record LogState : Type 0 where
  pub end : ℕ
  pub owed : Option LogRecord
  pub laid : Bool

-- a log that is being read: the place of the next gate, and the number of bytes of the disk
pub record ScanState : Type 0 where
  pub at : ℕ
  pub len : ℕ
