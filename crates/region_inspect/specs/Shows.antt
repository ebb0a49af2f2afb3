-- What a region shows.
use Rattle.std.specs.Prelude.{◌≡◌, ℕ, true, List, [], length, map}
use Rattle.std.specs.List.{AllZip, sum}
use Rattle.row_blocks.specs.Blocks.{rows_in, times_of}
use Rattle.time_range.specs.Ranges.{IsRange}
use Rattle.row_blocks.specs.Held.{rows_held}
use Rattle.region_layout.specs.Images.{TableImage}
use Rattle.region_layout.specs.declared.directory.Place.{Place}
use Rattle.region_layout.specs.declared.directory.BlockPlaces.{BlockPlaces}
use Rattle.region_layout.specs.declared.directory.TablePlaces.{TablePlaces}
use Rattle.region_layout.specs.Region.{IsImage, block_in, parts_in, reads}
use Rattle.leaf_words.specs.declared.ways.WhyDisk.TheVariants as why
use Rattle.adopt.specs.Adopting.{IsWhy}
use Rattle.region_inspect.specs.declared.seen.BlockLine.{BlockLine}
use Rattle.region_inspect.specs.declared.seen.TableLine.{TableLine}
use Rattle.region_inspect.specs.declared.seen.Seen.{Seen}
use Rattle.region_inspect.specs.declared.seen.Seen.TheVariants as seen

module _ (region : List ℕ) where
  -- a block's numbers of rows, columns and bytes, by the directory, and the least and the greatest time of all its rows
  pub record ShowsBlock (b : BlockPlaces) (line : BlockLine) : Type 0 where
    pub rows : line.rows ≡ b.rows
    pub times : IsRange (times_of (rows_in (block_in region b))) line.from line.to
    pub columns : line.columns ≡ length b.columns
    pub bytes : line.bytes ≡ sum (map (λ (p : Place). p.length) b.columns)

  -- a table's number of rows, and each of its blocks
  pub record ShowsTable (t : TablePlaces) (line : TableLine) : Type 0 where
    pub name : line.name ≡ t.name
    pub rows : line.rows ≡ length (rows_held (parts_in region t).blocks [] t.skip t.horizon)
    pub writes : line.writes ≡ t.writes
    pub horizon : line.horizon ≡ t.horizon
    pub blocks : AllZip ShowsBlock t.blocks line.blocks

  -- the region is an image that a start adopts, of these tables
  pub record ShowsImage (version log_end : ℕ) (lines : List TableLine) : Type 0 where
    pub images : List TableImage
    pub reads_it : reads version ≡ true
    pub image : IsImage version region images log_end
    pub tables : AllZip ShowsTable image.directory.tables lines

  abbrev pub Shows : Seen → Type 0
  Shows seen.NoHead = IsWhy region why.NoHead
  Shows (seen.Closed flag) = IsWhy region (why.Closed flag)
  Shows (seen.OtherVersion version) = IsWhy region (why.OtherVersion version)
  Shows seen.NoImage = IsWhy region why.NoImage
  Shows (seen.Image version log_end tables) = ShowsImage version log_end tables
