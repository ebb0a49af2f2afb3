-- How a table is shown block by block.
use Rattle.std.specs.Prelude.{◌≡◌, ℕ, ◌+◌, ◌<◌, ◌≤◌, ◌^◌, true, List, [], ◌∷◌, ◌++◌, map, ℤ, ⊤}
use Rattle.std.specs.List.{AllByRecursion, AllZip, sum}
use Rattle.table_state.specs.Tables.{most_rows}
use Rattle.column_bytes.specs.Column.{kind_in}
use Rattle.row_blocks.specs.declared.column.BlockColumn.{BlockColumn}
use Rattle.row_blocks.specs.Blocks.{Block, IsBlock}
use Rattle.region_layout.specs.declared.directory.Place.{Place}
use Rattle.region_layout.specs.declared.directory.BlockPlaces.{BlockPlaces}
use Rattle.region_layout.specs.declared.directory.TablePlaces.{TablePlaces}
use Rattle.region_layout.specs.Directory.{IsBlockPlaces, IsTablePlaces}
use Rattle.region_layout.specs.Region.{IsTableIn, allows, block_in}
use Rattle.adopt.specs.Finishing.{live_count}
use Rattle.region_inspect.specs.declared.seen.BlockLine.{BlockLine}
use Rattle.region_inspect.specs.declared.seen.TableLine.{TableLine}
use Rattle.region_inspect.specs.Shows.{ShowsBlock, ShowsTable}

-- a block keeps its rules, and the total length of its columns fits a u64
pub record IsSmall (b : BlockPlaces) : Type 0 where
  pub is : IsBlockPlaces b
  pub size : sum (map (λ (p : Place). p.length) b.columns) < 2 ^ 64

abbrev pub blocks_in : List ℕ → List BlockPlaces → List Block
blocks_in region bs = map (block_in region) bs

-- a block whose columns are of kinds that the version allows
abbrev pub HasKinds : ℕ → Block → Type 0
HasKinds version b = AllByRecursion (λ (c : BlockColumn). allows version (kind_in c.bytes) ≡ true) b.columns

-- a prefix of the blocks has lines; its blocks have this number of live rows
pub record ToldSoFar (version : ℕ) (region : List ℕ) (all : List BlockPlaces) (skip : ℕ) (h : ℤ) (lines : List BlockLine) (live cut : ℕ) (rest : List BlockPlaces) : Type 0 where
  pub done : List BlockPlaces
  pub split : done ++ rest ≡ all
  pub blocks : AllByRecursion IsBlock (blocks_in region done)
  pub kinds : AllByRecursion (HasKinds version) (blocks_in region done)
  pub lines_are : AllZip (ShowsBlock region) done lines
  pub counted : live + live_count (blocks_in region rest) cut h ≡ live_count (blocks_in region all) skip h

-- all blocks have lines
pub record AllBlocksTold (version : ℕ) (region : List ℕ) (all : List BlockPlaces) (skip : ℕ) (h : ℤ) (rows : ℕ) (lines : List BlockLine) : Type 0 where
  pub blocks : AllByRecursion IsBlock (blocks_in region all)
  pub kinds : AllByRecursion (HasKinds version) (blocks_in region all)
  pub rows_are : rows ≡ live_count (blocks_in region all) skip h
  pub lines_are : AllZip (ShowsBlock region) all lines

-- they are no blocks of a table in that version
abbrev pub AreNone : ℕ → List ℕ → List BlockPlaces → ℕ → ℤ → Type 0
AreNone version region all skip h = AllByRecursion IsBlock (blocks_in region all) → AllByRecursion (HasKinds version) (blocks_in region all) → live_count (blocks_in region all) skip h ≤ most_rows → ⊥

-- a cut ends inside the first block
abbrev pub CutsInside : ℕ → List BlockPlaces → Type 0
CutsInside cut [] = ⊤
CutsInside cut (b ∷ bs) = cut ≤ b.rows

-- a table keeps its rules, and its blocks are small
pub record IsSmallTable (t : TablePlaces) : Type 0 where
  pub is : IsTablePlaces t
  pub small : AllByRecursion IsSmall t.blocks

-- a table whose columns mean rows, with its line
pub record TableIs (version : ℕ) (region : List ℕ) (t : TablePlaces) (line : TableLine) : Type 0 where
  pub is : IsTableIn version region t
  pub shows : ShowsTable region t line

-- a table is none in that version
abbrev pub IsNone : ℕ → List ℕ → TablePlaces → Type 0
IsNone version region t = IsTableIn version region t → ⊥

-- a prefix of the tables has lines
pub record TablesSoFar (version : ℕ) (region : List ℕ) (all : List TablePlaces) (lines : List TableLine) (rest : List TablePlaces) : Type 0 where
  pub done : List TablePlaces
  pub split : done ++ rest ≡ all
  pub each : AllZip (TableIs version region) done lines

-- one of these tables is none in that version
abbrev pub HasNone : ℕ → List ℕ → List TablePlaces → Type 0
HasNone version region ts = AllByRecursion (IsTableIn version region) ts → ⊥
