-- The tables that go into a region or come out of it.
use Rattle.std.specs.Prelude.{ℕ, ◌+◌, ◌^◌, List, length, map, Bool, ◌||◌, nat_le}
use Rattle.std.specs.List.{flat_map, list_any, sum}
use Rattle.column_bytes.specs.Coding.{joined}
use Rattle.row_blocks.specs.declared.column.BlockColumn.{BlockColumn}
use Rattle.row_blocks.specs.Blocks.{Block}
use Rattle.table_state.specs.declared.parts.Parts.{Parts}
use Rattle.region_layout.specs.declared.drained.DrainTable.{DrainTable}
use Rattle.region_layout.specs.Images.{TableImage}
use Rattle.region_layout.specs.Region.{image_of_parts}

-- the bytes of the columns, in their order
abbrev pub columns_in : Parts → List (List ℕ)
columns_in parts = flat_map (λ (b : Block). map (λ (c : BlockColumn). c.bytes) b.columns) parts.blocks

abbrev pub all_columns : List DrainTable → List (List ℕ)
all_columns tables = flat_map (λ (t : DrainTable). columns_in t.parts) tables

-- the tables as an image has them
abbrev pub images_of : List DrainTable → List TableImage
images_of tables = map (λ (t : DrainTable). image_of_parts t.name t.parts) tables

-- ---- how long an image is

abbrev pub column_entry : BlockColumn → ℕ
column_entry c = 17 + length c.name

abbrev pub block_entry : Block → ℕ
block_entry b = 8 + sum (map column_entry b.columns)

abbrev pub table_entry : DrainTable → ℕ
table_entry t = 25 + length t.name + sum (map block_entry t.parts.blocks)

abbrev pub directory_length : List DrainTable → ℕ
directory_length tables = 9 + sum (map table_entry tables)

-- the head, the columns, and the directory
abbrev pub image_length : List DrainTable → ℕ
image_length tables = 16 + length (joined (all_columns tables)) + directory_length tables

-- a number of the table does not fit its field in a directory
abbrev pub is_wide : DrainTable → Bool
is_wide t = nat_le (2 ^ 32) (length t.parts.blocks) || (nat_le (2 ^ 63) t.parts.writes || list_any (λ (b : Block). nat_le (2 ^ 32) (length b.columns)) t.parts.blocks)

-- no image can be made of the tables
abbrev pub has_no_room : List DrainTable → Bool
has_no_room tables = nat_le (2 ^ 63) (image_length tables) || list_any is_wide tables
