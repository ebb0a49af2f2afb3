-- A directory as bytes, and what its fields have room for.
use Rattle.std.specs.Prelude.{ℕ, ◌<◌, ◌≤◌, ◌^◌, List, ◌∷◌, ◌++◌}
use Rattle.std.specs.Prelude as prelude
use Rattle.std.specs.List.{AllByRecursion, flat_map}
use Rattle.row_model.specs.Values.{IsTime}
use Rattle.leaf_model.specs.Bytes.{name_bytes, u32_bytes, u64_bytes, i64_bytes}
use Rattle.region_layout.specs.Names.{IsName}
use Rattle.region_layout.specs.declared.directory.Place.{Place}
use Rattle.region_layout.specs.declared.directory.BlockPlaces.{BlockPlaces}
use Rattle.region_layout.specs.declared.directory.TablePlaces.{TablePlaces}
use Rattle.region_layout.specs.declared.directory.Directory.{Directory}

-- ---- its bytes

-- a column: its name, its place and its length
unfoldable pub place_bytes : Place → List ℕ
place_bytes p = name_bytes p.name ++ (u64_bytes p.place ++ u64_bytes p.length)

-- a block: its number of rows, its number of columns, and the columns
unfoldable pub block_bytes : BlockPlaces → List ℕ
block_bytes b = u32_bytes b.rows ++ (u32_bytes (prelude.length b.columns) ++ flat_map place_bytes b.columns)

-- a table: its name, horizon, number of writes, skip, number of blocks, and the blocks
unfoldable pub table_bytes : TablePlaces → List ℕ
table_bytes t = name_bytes t.name ++ (i64_bytes t.horizon ++ (u64_bytes t.writes ++ (u32_bytes t.skip ++ (u32_bytes (prelude.length t.blocks) ++ flat_map block_bytes t.blocks))))

-- the log's end, the number of tables, and the tables
unfoldable pub directory_bytes : Directory → List ℕ
directory_bytes d = u64_bytes d.log_end ++ (prelude.length d.tables ∷ flat_map table_bytes d.tables)

-- ---- what the fields have room for

pub record PlaceFits (p : Place) : Type 0 where
  pub name : IsName p.name
  pub place : p.place < 2 ^ 64
  pub length : p.length < 2 ^ 64

-- 1 to 65,536 rows, and at least one column
pub record BlockFits (b : BlockPlaces) : Type 0 where
  pub some : 0 < b.rows
  pub few : b.rows ≤ 65536
  pub columned : 0 < prelude.length b.columns
  pub count : prelude.length b.columns < 2 ^ 32
  pub each : AllByRecursion PlaceFits b.columns

pub record TableFits (t : TablePlaces) : Type 0 where
  pub name : IsName t.name
  pub horizon : IsTime t.horizon
  pub writes : t.writes < 2 ^ 63
  pub skip : t.skip < 2 ^ 32
  pub count : prelude.length t.blocks < 2 ^ 32
  pub each : AllByRecursion BlockFits t.blocks

-- a directory of at most 16 tables, with an end of the log below 2^63; each that was read is one
pub record MayBeWritten (d : Directory) : Type 0 where
  pub log_end : d.log_end < 2 ^ 63
  pub few : prelude.length d.tables ≤ 16
  pub each : AllByRecursion TableFits d.tables
