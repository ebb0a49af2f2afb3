-- How rows stand: sealed blocks, the first with some rows cut off, and then a tail.
use Rattle.std.specs.Prelude.{◌≡◌, ℕ, ◌+◌, ◌*◌, ◌/◌, ◌≤◌, List, [], ◌∷◌, ◌++◌, length, if◌then◌else◌, true, int_le, ℤ, Option, Some, None, IfSome, ⊤}
use Rattle.std.specs.List.{AllByRecursion}
use Rattle.row_model.specs.declared.rows.Row.{Row}
use Rattle.row_model.specs.Values.{IsTime}
use Rattle.row_blocks.specs.Blocks.{Block, IsBlock}
use Rattle.row_blocks.specs.Held.{IsSkip, block_rows, blocks_held, columns_count, live_rows, rows_and_cells}
use Rattle.row_blocks.specs.Live.{has_live}
use Rattle.table_state.specs.Tables.{IsHeldRow, most_rows}

-- of n rows, how many stand in whole runs of 65,536
abbrev pub in_runs : ℕ → ℕ
in_runs n = n / 65536 * 65536

-- the rows of the blocks after the first `skip`, which are cut off
unfoldable pub sealed_rows : List Block → ℕ → ℤ → List Row
sealed_rows blocks skip horizon = blocks_held blocks skip horizon

-- the cut leaves rows of the first block, or just none
abbrev pub IsCut : ℕ → List Block → Type 0
IsCut cut [] = cut ≡ 0
IsCut cut (b ∷ blocks) = cut ≤ b.rows

-- no row is below t
abbrev pub AreFrom : ℤ → List Row → Type 0
AreFrom t rows = AllByRecursion (λ (row : Row). int_le t row.time ≡ true) rows

-- the times of the rows never fall, and are from `from` to `to`
abbrev pub AreAscending : ℤ → List Row → ℤ → Type 0
AreAscending from [] to = int_le from to ≡ true
AreAscending from (row ∷ rows) to = (int_le from row.time ≡ true) × AreAscending row.time rows to

-- what a tail knows of its rows: no time is below `least`, and if there is a `last`, the times never fall and none is
-- above it
pub record AreNoted (least : ℤ) (last : Option ℤ) (rows : List Row) : Type 0 where
  pub from : AreFrom least rows
  pub order : IfSome last (λ to. AreAscending least rows to)

-- these rows follow others whose last time is `before`: if there is a `to`, there is a `before`, and the times go from
-- it up to `to`
abbrev pub AscendOn : Option ℤ → List Row → Option ℤ → Type 0
AscendOn before rows None = ⊤
AscendOn None rows (Some to) = ⊥
AscendOn (Some from) rows (Some to) = AreAscending from rows to

-- at least n rows of the first block are live and not cut off
abbrev pub AreAhead : ℕ → List Block → ℕ → ℤ → Type 0
AreAhead n [] skip horizon = n ≡ 0
AreAhead n (b ∷ blocks) skip horizon = n ≤ length (live_rows skip horizon b)

-- the invariant of a table's fields: the cut leaves some row of the first block, the tail is short and has no row below
-- the horizon, and `live` counts the live rows of the blocks
pub record StoreStands (blocks : List Block) (skip : ℕ) (tail : List Row) (horizon : ℤ) (live : ℕ) : Type 0 where
  pub time : IsTime horizon
  pub cut : IsSkip skip blocks
  pub sealed : AllByRecursion IsBlock blocks
  pub each : AllByRecursion (IsHeldRow horizon) tail
  pub short : length tail ≤ 65535
  pub counted : live ≡ length (sealed_rows blocks skip horizon)
  pub few : live + length tail ≤ most_rows

-- these rows were sealed into blocks, which were appended, with at most one column for each row and each cell
pub record AreSealed (blocks : List Block) (rows : List Row) (now : List Block) : Type 0 where
  pub more : List Block
  pub is : now ≡ blocks ++ more
  pub each : AllByRecursion IsBlock more
  pub same : block_rows more ≡ rows
  pub few : columns_count more ≤ rows_and_cells rows

-- the cut of the block that is first once blocks without a live row are gone
abbrev pub skip_left : ℕ → ℤ → List Block → ℕ
skip_left skip horizon [] = 0
skip_left skip horizon (b ∷ blocks) = if has_live horizon b then skip else 0
