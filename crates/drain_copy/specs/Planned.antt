-- How a drain lays out its image.
use Rattle.std.specs.Prelude.{◌≡◌, ◌⊎◌, ℕ, ◌+◌, ◌-◌, ◌<◌, ◌≤◌, ◌^◌, min, List, [], ◌∷◌, length, map, slice_get, Some, false}
use Rattle.std.specs.List.{AllByRecursion, flat_map}
use Rattle.row_blocks.specs.declared.column.BlockColumn.{BlockColumn}
use Rattle.row_blocks.specs.Columns.{MeanCells}
use Rattle.row_blocks.specs.Blocks.{Block}
use Rattle.row_blocks.specs.Held.{columns_count}
use Rattle.region_layout.specs.declared.directory.Place.{Place}
use Rattle.region_layout.specs.declared.directory.BlockPlaces.{BlockPlaces}
use Rattle.region_layout.specs.declared.directory.TablePlaces.{TablePlaces}
use Rattle.region_layout.specs.declared.directory.Directory.{Directory}
use Rattle.region_layout.specs.declared.drained.DrainTable.{DrainTable}
use Rattle.region_layout.specs.Drained.{column_entry, has_no_room}
use Rattle.drain_copy.specs.declared.sizes.Sizes.{Sizes}

-- ---- the columns, in their order

abbrev pub columns_bytes : List BlockColumn → List (List ℕ)
columns_bytes columns = map (λ (c : BlockColumn). c.bytes) columns

abbrev pub blocks_bytes : List Block → List (List ℕ)
blocks_bytes blocks = flat_map (λ (b : Block). columns_bytes b.columns) blocks

-- ---- how long they are together

abbrev pub columns_size : List BlockColumn → ℕ
columns_size [] = 0
columns_size (c ∷ columns) = length c.bytes + columns_size columns

abbrev pub blocks_size : List Block → ℕ
blocks_size [] = 0
blocks_size (b ∷ blocks) = columns_size b.columns + blocks_size blocks

abbrev pub tables_size : List DrainTable → ℕ
tables_size [] = 0
tables_size (t ∷ tables) = blocks_size t.parts.blocks + tables_size tables

-- bytes that mean cells are fewer than 2^37
abbrev pub IsShortColumn : BlockColumn → Type 0
IsShortColumn c = (n : ℕ) → MeanCells c.bytes n → length c.bytes < 2 ^ 37

-- of each column
abbrev pub AreShort : Block → Type 0
AreShort b = AllByRecursion IsShortColumn b.columns

abbrev pub HasShort : DrainTable → Type 0
HasShort t = AllByRecursion AreShort t.parts.blocks

-- ---- how many there are

abbrev pub tables_count : List DrainTable → ℕ
tables_count [] = 0
tables_count (t ∷ tables) = columns_count t.parts.blocks + tables_count tables

-- no image can be made of the tables only if they have 2^25 columns or one has 2^63 writes
abbrev pub NeedRoom : List DrainTable → Type 0
NeedRoom tables = (2 ^ 25 ≤ tables_count tables) ⊎ ((place : ℕ) × (t : DrainTable) × (slice_get tables place ≡ Some t) × (2 ^ 63 ≤ t.parts.writes))

-- ---- how long their entries in the directory are

abbrev pub columns_entries : List BlockColumn → ℕ
columns_entries [] = 0
columns_entries (c ∷ columns) = column_entry c + columns_entries columns

abbrev pub blocks_entries : List Block → ℕ
blocks_entries [] = 0
blocks_entries (b ∷ blocks) = (8 + columns_entries b.columns) + blocks_entries blocks

abbrev pub tables_entries : List DrainTable → ℕ
tables_entries [] = 0
tables_entries (t ∷ tables) = (25 + length t.name + blocks_entries t.parts.blocks) + tables_entries tables

-- ---- what is counted up to the greatest number of a u64

abbrev pub capped : ℕ → ℕ
capped n = min n (2 ^ 64 - 1)

-- the sizes grew by `columns` columns, `bytes` bytes, and `entries` bytes of the directory
pub record Grew (old new : Sizes) (columns bytes entries : ℕ) : Type 0 where
  pub more_columns : capped new.columns ≡ capped (old.columns + columns)
  pub more_bytes : capped new.bytes ≡ capped (old.bytes + bytes)
  pub more_entries : capped new.entries ≡ capped (old.entries + entries)

-- an image can be made of the tables, and these are their numbers
pub record HasRoom (tables : List DrainTable) (sizes : Sizes) : Type 0 where
  pub room : has_no_room tables ≡ false
  pub columns : sizes.columns ≡ tables_count tables
  pub bytes : sizes.bytes ≡ tables_size tables

-- ---- their places, from a place on

abbrev pub places_from : ℕ → List BlockColumn → List Place
places_from at [] = []
places_from at (c ∷ columns) = record { name = c.name; place = at; length = length c.bytes } ∷ places_from (at + length c.bytes) columns

abbrev pub block_from : ℕ → Block → BlockPlaces
block_from at b = record { rows = b.rows; columns = places_from at b.columns }

abbrev pub blocks_from : ℕ → List Block → List BlockPlaces
blocks_from at [] = []
blocks_from at (b ∷ blocks) = block_from at b ∷ blocks_from (at + columns_size b.columns) blocks

abbrev pub table_from : ℕ → DrainTable → TablePlaces
table_from at t = record { name = t.name; horizon = t.parts.horizon; writes = t.parts.writes; skip = t.parts.skip; blocks = blocks_from at t.parts.blocks }

abbrev pub tables_from : ℕ → List DrainTable → List TablePlaces
tables_from at [] = []
tables_from at (t ∷ tables) = table_from at t ∷ tables_from (at + blocks_size t.parts.blocks) tables

-- the directory of an image whose columns follow the head
abbrev pub planned_directory : List DrainTable → ℕ → Directory
planned_directory tables log_end = record { log_end = log_end; tables = tables_from 16 tables }
