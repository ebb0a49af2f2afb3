-- What a region means, by its fields.
use Rattle.std.specs.Prelude.{◌≡◌, ℕ, ◌+◌, ◌==◌, ◌||◌, Bool, true, nat_lt, List, [], map, take, drop, codes, slice_range}
use Rattle.std.specs.List.{AllByRecursion}
use Rattle.std.specs.Int.{w64, from_le_bytes}
use Rattle.column_bytes.specs.declared.kind.Kind.{Kind}
use Rattle.column_bytes.specs.declared.kind.Kind.TheVariants.{Ints, Texts, Sets}
use Rattle.column_bytes.specs.Column.{kind_in}
use Rattle.region_head.specs.declared.head.Head.TheVariants.{Version}
use Rattle.region_layout.specs.Images.{TableImage}
use Rattle.region_head.specs.Head.{head_of}
use Rattle.row_blocks.specs.declared.column.BlockColumn.{BlockColumn}
use Rattle.table_state.specs.declared.parts.Parts.{Parts}
use Rattle.region_layout.specs.declared.directory.Place.{Place}
use Rattle.region_layout.specs.declared.directory.BlockPlaces.{BlockPlaces}
use Rattle.region_layout.specs.declared.directory.TablePlaces.{TablePlaces}
use Rattle.region_layout.specs.declared.directory.Directory.{Directory}
use Rattle.row_blocks.specs.Blocks.{Block}
use Rattle.row_blocks.specs.Columns.{MeanCells}
use Rattle.row_blocks.specs.Held.{columns_count, rows_held}
use Rattle.table_state.specs.Tables.{IsParts}
use Rattle.region_layout.specs.Directory.{IsDirectory}
use Rattle.region_layout.specs.Written.{directory_bytes}

-- ---- versions: all that a newer layout changes

-- the version that a drain writes
abbrev pub layout : ℕ
layout = 3

-- the versions that a start adopts
abbrev pub reads : ℕ → Bool
reads version = version == 2 || version == 3

-- the kinds of columns that an image of a version may have: no sets before version 3
abbrev pub allows : ℕ → Kind → Bool
allows version Ints = true
allows version Texts = true
allows version Sets = nat_lt 2 version

-- the bytes mean n cells, of a kind that the version allows
abbrev pub MeanIn : ℕ → List ℕ → ℕ → Type 0
MeanIn version bytes n = MeanCells bytes n × (allows version (kind_in bytes) ≡ true)

-- ---- the parts of a region

-- the place of the directory, as the head tells it
abbrev pub directory_from : List ℕ → ℕ
directory_from region = from_le_bytes w64 (take 8 (drop 8 region))

-- the column whose name and place these are, with its bytes in the region
abbrev pub column_in : List ℕ → Place → BlockColumn
column_in region p = record { name = p.name; bytes = slice_range region p.place (p.place + p.length) }

-- a block of such columns
abbrev pub block_in : List ℕ → BlockPlaces → Block
block_in region b = record { rows = b.rows; columns = map (column_in region) b.columns }

-- a table of such blocks
abbrev pub parts_in : List ℕ → TablePlaces → Parts
parts_in region t = record { horizon = t.horizon; writes = t.writes; skip = t.skip; blocks = map (block_in region) t.blocks }

-- a table of this name with these parts
abbrev pub image_of_parts : List ℕ → Parts → TableImage
image_of_parts name p = record { name = name; horizon = p.horizon; writes = p.writes; rows = rows_held p.blocks [] p.skip p.horizon; columns = columns_count p.blocks }

-- its columns mean rows, and are of kinds that the version allows
pub record IsTableIn (version : ℕ) (region : List ℕ) (t : TablePlaces) : Type 0 where
  pub parts : IsParts (parts_in region t)
  pub kinds : AllByRecursion (λ (b : Block). AllByRecursion (λ (c : BlockColumn). allows version (kind_in c.bytes) ≡ true) b.columns) (parts_in region t).blocks

-- ---- an image of a version

-- the region has an open head of this version, the letters, and after the columns the bytes of this directory, which
-- keeps its rules
pub record HasDirectory (version : ℕ) (region : List ℕ) (d : Directory) : Type 0 where
  pub head : head_of region ≡ Version version
  pub letters : take 3 (drop 1 region) ≡ codes "SCB"
  pub bytes : drop (directory_from region) region ≡ directory_bytes d
  pub itself : IsDirectory (directory_from region) d

-- the region is an image, of this version, of these tables and this end of the log
pub record IsImage (version : ℕ) (region : List ℕ) (tables : List TableImage) (log_end : ℕ) : Type 0 where
  pub directory : Directory
  pub has : HasDirectory version region directory
  pub each : AllByRecursion (IsTableIn version region) directory.tables
  pub tables_are : tables ≡ map (λ (t : TablePlaces). image_of_parts t.name (parts_in region t)) directory.tables
  pub log_end_is : log_end ≡ directory.log_end

-- an image that a start adopts: the name that all crates above use
pub record IsAdoptable (region : List ℕ) (tables : List TableImage) (log_end : ℕ) : Type 0 where
  pub version : ℕ
  pub reads_it : reads version ≡ true
  pub is : IsImage version region tables log_end
