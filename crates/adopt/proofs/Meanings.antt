-- In an image each column means as many cells as its block has rows.
use Rattle.std.proofs.Common.{◌≡◌, ℕ, true, List, [], ◌∷◌, ◌++◌, map, sym, ap, subst, ◌∙◌}
use Rattle.std.specs.List.{AllByRecursion, flat_map}
use Rattle.region_layout.specs.Images.{TableImage}
use Rattle.row_blocks.specs.declared.column.BlockColumn.{BlockColumn}
use Rattle.column_bytes.specs.Column.{kind_in}
use Rattle.region_head.specs.declared.head.Head.{Head}
use Rattle.region_head.specs.declared.head.Head.TheVariants.{NoHead, Closed, Version}
use Rattle.region_head.specs.Head.{head_of}
use Rattle.row_blocks.specs.Blocks.{Block, IsBlock, IsOther}
use Rattle.region_layout.specs.declared.directory.Place.{Place}
use Rattle.region_layout.specs.declared.directory.BlockPlaces.{BlockPlaces}
use Rattle.region_layout.specs.declared.directory.TablePlaces.{TablePlaces}
use Rattle.region_layout.specs.declared.directory.Directory.{Directory}
use Rattle.region_layout.specs.Region.{HasDirectory, IsAdoptable, IsTableIn, MeanIn, allows, block_in, column_in}
use Rattle.region_layout.proofs.Images.{same_directory}
use Rattle.adopt.specs.declared.spans.Span.{Span}
use Rattle.adopt.specs.Adopting.{IsNoImage}
use Rattle.adopt.specs.Taken.{block_spans, span_of, spans_of, table_spans}
use Rattle.adopt.proofs.Columns.{all_at, span_in}

abbrev pub Means : ℕ → List ℕ → Span → Type 0
Means version region s = MeanIn version (span_in region s) s.rows

abbrev ColumnMeans : ℕ → ℕ → BlockColumn → Type 0
ColumnMeans version rows c = MeanIn version c.bytes rows

all_append : (P : Span → Type 0) (ss ts : List Span) → AllByRecursion P ss → AllByRecursion P ts → AllByRecursion P (ss ++ ts)
all_append P [] ts first second = second
all_append P (s ∷ ss) ts first second = (first.0, all_append P ss ts first.1 second)

abbrev Allowed : ℕ → BlockColumn → Type 0
Allowed version c = allows version (kind_in c.bytes) ≡ true

others_mean : (version rows : ℕ) (cs : List BlockColumn) → AllByRecursion (IsOther rows) cs → AllByRecursion (Allowed version) cs → AllByRecursion (ColumnMeans version rows) cs
others_mean version rows [] each kinds = tt
others_mean version rows (c ∷ cs) each kinds = ((each.0.cells, kinds.0), others_mean version rows cs each.1 kinds.1)

columns_mean : (version : ℕ) (region : List ℕ) (rows : ℕ) (ps : List Place) → AllByRecursion (ColumnMeans version rows) (map (column_in region) ps) → AllByRecursion (Means version region) (map (span_of rows) ps)
columns_mean version region rows [] each = tt
columns_mean version region rows (p ∷ ps) each = (each.0, columns_mean version region rows ps each.1)

block_means : (version : ℕ) (region : List ℕ) (b : BlockPlaces) → IsBlock (block_in region b) → AllByRecursion (Allowed version) (block_in region b).columns → AllByRecursion (Means version region) (block_spans b)
block_means version region b is kinds =
    let told = subst (AllByRecursion (Allowed version)) is.columns_are kinds in
    columns_mean version region b.rows b.columns (subst (AllByRecursion (ColumnMeans version b.rows)) (sym is.columns_are) ((is.timed.cells, told.0), others_mean version b.rows is.others is.each told.1))

blocks_mean : (version : ℕ) (region : List ℕ) (bs : List BlockPlaces) → AllByRecursion IsBlock (map (block_in region) bs) → AllByRecursion (λ (b : Block). AllByRecursion (Allowed version) b.columns) (map (block_in region) bs)
    → AllByRecursion (Means version region) (flat_map block_spans bs)
blocks_mean version region [] each kinds = tt
blocks_mean version region (b ∷ bs) each kinds =
    all_append (Means version region) (block_spans b) (flat_map block_spans bs) (block_means version region b each.0 kinds.0) (blocks_mean version region bs each.1 kinds.1)

tables_mean : (version : ℕ) (region : List ℕ) (ts : List TablePlaces) → AllByRecursion (IsTableIn version region) ts → AllByRecursion (Means version region) (flat_map table_spans ts)
tables_mean version region [] each = tt
tables_mean version region (t ∷ ts) each =
    all_append (Means version region) (table_spans t) (flat_map table_spans ts) (blocks_mean version region t.blocks each.0.parts.blocks each.0.kinds) (tables_mean version region ts each.1)

-- the head fixes the version
same_version : (region : List ℕ) (a b : ℕ) → head_of region ≡ Version a → head_of region ≡ Version b → a ≡ b
same_version region a b first second = ap (λ (h : Head). version_in h) (sym first ∙ second)
  where
    version_in : Head → ℕ
    version_in (Version v) = v
    version_in NoHead = 0
    version_in (Closed flag) = 0

-- an image with this directory has tables of its columns
pub each_table : (version : ℕ) (region : List ℕ) (d : Directory) (images : List TableImage) (log_end : ℕ) → HasDirectory version region d → IsAdoptable region images log_end
    → AllByRecursion (IsTableIn version region) d.tables
each_table version region d images log_end has is =
    let same = same_version region is.version version is.is.has.head has.head in
    subst (λ (v : ℕ). AllByRecursion (IsTableIn v region) d.tables) same
    (subst (λ (e : Directory). AllByRecursion (IsTableIn is.version region) e.tables) (same_directory region is.version version is.is.directory d is.is.has has) is.is.each)

-- a region is no image where a column means another number of cells, or is of a kind that the version does not allow
pub no_cells : (version : ℕ) (region : List ℕ) (d : Directory) (init : List Span) (s : Span) (rest : List Span) → HasDirectory version region d → spans_of d ≡ init ++ s ∷ rest
    → (Means version region s → ⊥) → IsNoImage region
no_cells version region d init s rest has split fails images log_end is =
    let all = tables_mean version region d.tables (each_table version region d images log_end has is) in
    fails (all_at (Means version region) init s rest (subst (AllByRecursion (Means version region)) split all))
