-- The answer of the test whether columns are a block.
use Rattle.std.specs.Prelude.{ℕ, ⊤, List, Result, Ok, Err}
use Rattle.row_blocks.specs.declared.column.BlockColumn.{BlockColumn}
use Rattle.row_blocks.specs.declared.fault.BlockFault.{BlockFault}
use Rattle.row_blocks.specs.declared.fault.BlockFault.TheVariants.{NoRows, NoMemory}
use Rattle.time_range.specs.declared.times.TimeRange.{TimeRange}
use Rattle.row_blocks.specs.Blocks.{IsBlock, rows_in, times_of}
use Rattle.time_range.specs.Ranges.{IsRangeOf}

-- the columns are a block with this range of times, or they are none, or memory ran out
abbrev pub Decides : ℕ → List BlockColumn → Result TimeRange BlockFault → Type 0
Decides rows columns (Ok range) = IsBlock (record { rows = rows; columns = columns }) × IsRangeOf (times_of (rows_in (record { rows = rows; columns = columns }))) range
Decides rows columns (Err NoRows) = IsBlock (record { rows = rows; columns = columns }) → ⊥
Decides rows columns (Err NoMemory) = ⊤
