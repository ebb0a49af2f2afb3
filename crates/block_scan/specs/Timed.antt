-- Times that may stand for those of a block, as a query makes the same groups of them.
use Rattle.std.specs.Prelude.{◌≡◌, ℕ, ◌<◌, ◌≤◌, ◌∷◌, List, length, map, ℤ, ◌≤ℤ◌}
use Rattle.leaf_model.specs.declared.queries.Query.{Query}
use Rattle.leaf_model.specs.Groups.{groups}
use Rattle.row_blocks.specs.declared.column.BlockColumn.{BlockColumn}
use Rattle.row_blocks.specs.Blocks.{time_in_cell, value_in}
use Rattle.row_blocks.specs.Held.{live_rows}
use Rattle.block_scan.specs.Reads.{row_of, wanted_places}

-- each time of the column is in `from..=to`
abbrev pub AreBetween : ℕ → BlockColumn → ℤ → ℤ → Type 0
AreBetween rows times from to = (i : ℕ) → i < rows → (from ≤ℤ time_in_cell (value_in times.bytes i)) × (time_in_cell (value_in times.bytes i) ≤ℤ to)

-- with these times the wanted places have the groups of the rows that are held, and are no more
pub record StandForTimes (q : Query) (rows : ℕ) (times : BlockColumn) (skip : ℕ) (horizon : ℤ) (found : List ℤ) : Type 0 where
  pub count : length found ≡ rows
  pub same : (others : List BlockColumn) → groups q (map (row_of found others) (wanted_places q horizon found skip)) ≡ groups q (live_rows skip horizon (record { rows = rows; columns = times ∷ others }))
  pub few : (others : List BlockColumn) → length (wanted_places q horizon found skip) ≤ length (live_rows skip horizon (record { rows = rows; columns = times ∷ others }))
