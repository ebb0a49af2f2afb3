-- A block as a query sees it: the columns that it names, and the rows that are held.
use Rattle.std.specs.Prelude.{◌≡◌, ℕ, ◌≤◌, List, length, ℤ, Result, IfOk}
use Rattle.std.specs.declared.alloc.AllocError.{AllocError}
use Rattle.std.specs.List.{AllByRecursion, flat_map}
use Rattle.row_model.specs.declared.rows.Row.{Row}
use Rattle.leaf_model.specs.declared.queries.Query.{Query}
use Rattle.leaf_model.specs.declared.groups.Group.{Group}
use Rattle.leaf_model.specs.Groups.{groups}
use Rattle.group_table.specs.Joined.{IsWithin}
use Rattle.row_blocks.specs.Blocks.{Block}
use Rattle.row_blocks.specs.Held.{blocks_held, live_rows}
use Rattle.block_scan.specs.Scanning.{named_columns}

-- a block, and which of its rows are held: those from `skip` and from the horizon on
pub record SeenBlock : Type 0 where
  pub skip : ℕ
  pub horizon : ℤ
  pub block : Block

abbrev pub seen : ℕ → ℤ → Block → SeenBlock
seen skip horizon block = record { skip = skip; horizon = horizon; block = block }

-- the rows that are held of it
abbrev pub seen_rows : SeenBlock → List Row
seen_rows s = live_rows s.skip s.horizon s.block

-- the block without the columns that the query does not name
abbrev pub named_block : Query → Block → Block
named_block q b = record { rows = b.rows; columns = named_columns q b.columns }

-- the groups of the rows that are held of a block
pub record AreGroups (q : Query) (s : SeenBlock) (gs : List Group) : Type 0 where
  pub is : gs ≡ groups q (seen_rows s)
  pub within : AllByRecursion (IsWithin (length (seen_rows s))) gs

-- if they could be made, these are the groups of the rows that are held
abbrev pub IsFolded : Query → SeenBlock → Result (List Group) AllocError → Type 0
IsFolded q s result = IfOk result (AreGroups q s)

-- the views give the same groups as the blocks, and have no more rows
pub record StandFor (q : Query) (blocks : List Block) (skip : ℕ) (horizon : ℤ) (views : List SeenBlock) : Type 0 where
  pub same : groups q (flat_map seen_rows views) ≡ groups q (blocks_held blocks skip horizon)
  pub few : length (flat_map seen_rows views) ≤ length (blocks_held blocks skip horizon)
