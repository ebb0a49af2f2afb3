-- The rows that a table holds: those of its blocks, then those of its tail.
use Rattle.std.specs.Prelude.{◌≡◌, ℕ, suc, ◌+◌, ◌<◌, List, [], ◌∷◌, ◌++◌, length, drop, ℤ}
use Rattle.std.specs.List.{flat_map}
use Rattle.row_model.specs.declared.rows.Row.{Row}
use Rattle.leaf_model.specs.Content.{rows_from}
use Rattle.row_blocks.specs.Blocks.{Block, rows_in}

-- the rows of all blocks, block after block
abbrev pub block_rows : List Block → List Row
block_rows blocks = flat_map rows_in blocks

-- without the first `skip` rows of the blocks, and without the rows below the horizon
abbrev pub rows_held : List Block → List Row → ℕ → ℤ → List Row
rows_held blocks tail skip horizon = rows_from horizon (drop skip (block_rows blocks) ++ tail)

-- the part of these rows that stands in the blocks
abbrev pub blocks_held : List Block → ℕ → ℤ → List Row
blocks_held blocks skip horizon = rows_from horizon (drop skip (block_rows blocks))

-- the live rows of one block after its first `skip` rows, which are cut off
abbrev pub live_rows : ℕ → ℤ → Block → List Row
live_rows skip horizon b = rows_from horizon (drop skip (rows_in b))

-- the number of columns of all blocks together
abbrev pub columns_count : List Block → ℕ
columns_count [] = 0
columns_count (b ∷ blocks) = length b.columns + columns_count blocks

-- the number of rows and cells together: a bound on the columns of these rows once sealed
abbrev pub rows_and_cells : List Row → ℕ
rows_and_cells [] = 0
rows_and_cells (row ∷ rows) = suc (length row.cells) + rows_and_cells rows

-- `skip` leaves at least one row of the first block
abbrev pub IsSkip : ℕ → List Block → Type 0
IsSkip skip [] = skip ≡ 0
IsSkip skip (b ∷ blocks) = skip < b.rows
