-- Limits of writes.
use Rattle.std.specs.Prelude.{◌<◌, ◌≤◌, ◌^◌, length}
use Rattle.std.specs.List.{AllByRecursion}
use Rattle.row_model.specs.Values.{IsRow, IsTime}
use Rattle.leaf_model.specs.declared.writes.Write.{Write}
use Rattle.leaf_model.specs.declared.writes.Write.TheVariants.{Add, Expire, Keep}

-- a write: at most 100,000 rows, a horizon that is a time, or a number of rows to keep below 2^64
abbrev pub IsWrite : Write → Type 0
IsWrite (Add rows) = (length rows ≤ 100000) × AllByRecursion IsRow rows
IsWrite (Expire horizon) = IsTime horizon
IsWrite (Keep n) = n < 2 ^ 64
