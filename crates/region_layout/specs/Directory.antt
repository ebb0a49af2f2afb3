-- The directory of a region: how it is read, field by field from the left, and the rules that it keeps.
use Rattle.std.specs.Prelude.{◌≡◌, ℕ, ◌+◌, ◌<◌, ◌≤◌, ◌^◌, List, [], ◌∷◌, map, ◌||◌, ◌==◌, nat_lt, if◌then◌else◌, Option, Some, None}
use Rattle.std.specs.Prelude as prelude
use Rattle.std.specs.List.{AllByRecursion, flat_map}
use Rattle.std.specs.List.Sorted.{IsSortedByKey}
use Rattle.std.specs.Int.{w32, w64}
use Rattle.row_model.specs.Values.{IsCellName, IsTime, time_name}
use Rattle.row_model.specs.Texts.{text_cmp}
use Rattle.leaf_model.specs.Reading.{◌>>=◌, byte_at, many_at, number_at, name_at, time_at}
use Rattle.region_layout.specs.Names.{IsName}
use Rattle.region_layout.specs.Reading.{below_2_63_at}
use Rattle.row_model.specs.Names.{AreDistinct}
use Rattle.region_layout.specs.declared.directory.Place.{Place}
use Rattle.region_layout.specs.declared.directory.BlockPlaces.{BlockPlaces}
use Rattle.region_layout.specs.declared.directory.TablePlaces.{TablePlaces}
use Rattle.region_layout.specs.declared.directory.Directory.{Directory}

-- ---- how it is read

-- a column's name, place and length
unfoldable pub place_at : List ℕ → Option (Place × List ℕ)
place_at bytes = do
  name ← name_at bytes
  place ← number_at w64 name.1
  size ← number_at w64 place.1
  Some (record { name = name.0; place = place.0; length = size.0 }, size.1)

-- 1 to 65,536 rows, and at least one column
unfoldable pub block_at : List ℕ → Option (BlockPlaces × List ℕ)
block_at bytes = do
  rows ← number_at w32 bytes
  count ← number_at w32 rows.1
  if (rows.0 == 0) || (nat_lt 65536 rows.0 || (count.0 == 0)) then None
      else (many_at place_at count.0 count.1 >>= λ columns. Some (record { rows = rows.0; columns = columns.0 }, columns.1))

-- a name, a horizon, the number of writes, the number of rows that are cut off, the number of blocks, and the blocks
unfoldable pub table_at : List ℕ → Option (TablePlaces × List ℕ)
table_at bytes = do
  name ← name_at bytes
  horizon ← time_at name.1
  writes ← below_2_63_at horizon.1
  skip ← number_at w32 writes.1
  count ← number_at w32 skip.1
  blocks ← many_at block_at count.0 count.1
  Some (record { name = name.0; horizon = horizon.0; writes = writes.0; skip = skip.0; blocks = blocks.0 }, blocks.1)

-- the log's end, the number of tables, at most 16, and the tables; nothing follows
unfoldable pub directory_at : List ℕ → Option Directory
directory_at bytes = do
  log_end ← below_2_63_at bytes
  count ← byte_at log_end.1
  if nat_lt 16 count.0 then None
      else (many_at table_at count.0 count.1 >>= λ tables. if prelude.length tables.1 == 0 then Some (record { log_end = log_end.0; tables = tables.0 }) else None)

-- ---- the rules that a directory keeps by itself

-- the column of times comes first, and after it names never fall; two columns of one name have two kinds, which the
-- columns tell
abbrev pub AreColumns : List Place → Type 0
AreColumns [] = ⊥
AreColumns (times ∷ others) = (times.name ≡ time_name) × AllByRecursion (λ (p : Place). IsCellName p.name) others × IsSortedByKey (λ (p : Place). p.name) text_cmp others

-- 1 to 65,536 rows, and fewer than 2^32 columns
pub record IsBlockPlaces (b : BlockPlaces) : Type 0 where
  pub some : 0 < b.rows
  pub few : b.rows ≤ 65536
  pub count : prelude.length b.columns < 2 ^ 32
  pub columns : AreColumns b.columns

-- fewer rows are cut off than the first block has, and none if there is no block
abbrev pub IsSkipOf : ℕ → List BlockPlaces → Type 0
IsSkipOf skip [] = skip ≡ 0
IsSkipOf skip (b ∷ blocks) = skip < b.rows

-- a name of a table, numbers that fit, a cut of the first block's rows, and fewer than 2^32 blocks
pub record IsTablePlaces (t : TablePlaces) : Type 0 where
  pub name : IsName t.name
  pub horizon : IsTime t.horizon
  pub writes : t.writes < 2 ^ 63
  pub skip : IsSkipOf t.skip t.blocks
  pub count : prelude.length t.blocks < 2 ^ 32
  pub blocks : AllByRecursion IsBlockPlaces t.blocks

-- each column begins where the one before it ends
abbrev pub Joined : ℕ → List Place → ℕ → Type 0
Joined from [] to = from ≡ to
Joined from (p ∷ rest) to = (p.place ≡ from) × Joined (from + p.length) rest to

-- all columns, in their order
abbrev pub columns_of : Directory → List Place
columns_of d = flat_map (λ (t : TablePlaces). flat_map (λ (b : BlockPlaces). b.columns) t.blocks) d.tables

-- the directory stands at a place below 2^64, and the columns fill the region from the head up to it; at most 16 tables
-- of distinct names; the log's end is below 2^63
pub record IsDirectory (place : ℕ) (d : Directory) : Type 0 where
  pub low : place < 2 ^ 64
  pub log_end : d.log_end < 2 ^ 63
  pub few : prelude.length d.tables ≤ 16
  pub distinct : AreDistinct (map (λ (t : TablePlaces). t.name) d.tables)
  pub each : AllByRecursion IsTablePlaces d.tables
  pub joined : Joined 16 (columns_of d) place
