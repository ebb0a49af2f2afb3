-- What a look finds, and what is left in the region between the steps of an adoption.
use Rattle.std.specs.Prelude.{◌≡◌, ◌⊎◌, ℕ, suc, ◌+◌, ◌-◌, ◌<◌, ◌≤◌, ◌^◌, true, false, List, [], ◌∷◌, length, map, take, drop, get_or, slice_get, IfSome, Option, Some, None, Result, Ok, Err, ⊤, Contains}
use Rattle.std.specs.List.{AllByRecursion}
use Rattle.berth_face.specs.Berth.{IsClosed}
use Rattle.column_bytes.specs.Coding.{joined}
use Rattle.column_bytes.specs.Column.{kind_in}
use Rattle.region_head.specs.declared.head.Head.TheVariants as head
use Rattle.region_layout.specs.Images.{TableImage}
use Rattle.region_head.specs.Head.{head_of}
use Rattle.row_model.specs.Names.{AreDistinct}
use Rattle.leaf_words.specs.declared.ways.WhyDisk.{WhyDisk}
use Rattle.leaf_words.specs.declared.ways.WhyDisk.TheVariants as why
use Rattle.region_reading.specs.declared.fault.AdoptFault.{AdoptFault}
use Rattle.region_reading.specs.declared.fault.AdoptFault.TheVariants.{RegionFault, NoMemory}
use Rattle.adopt.specs.declared.found.Found.{Found}
use Rattle.adopt.specs.declared.found.Found.TheVariants as found
use Rattle.adopt.specs.declared.found.AdoptStep.{AdoptStep}
use Rattle.adopt.specs.declared.found.AdoptStep.TheVariants.{More, NoImage, Finished}
use Rattle.region_layout.specs.declared.directory.Place.{Place}
use Rattle.region_layout.specs.declared.directory.TablePlaces.{TablePlaces}
use Rattle.region_layout.specs.declared.directory.Directory.{Directory}
use Rattle.region_layout.specs.declared.drained.DrainTable.{DrainTable}
use Rattle.table_state.specs.Tables.{IsParts}
use Rattle.region_layout.specs.Names.{IsName}
use Rattle.region_layout.specs.Directory.{columns_of}
use Rattle.region_layout.specs.Region.{HasDirectory, IsAdoptable, MeanIn, allows, column_in, directory_from, parts_in, reads}
use Rattle.region_layout.specs.Drained.{images_of}
use Rattle.adopt.specs.declared.spans.Span.{Span}
use Rattle.region_head.specs.Closing.{IsBroken}
use Rattle.region_strangers.specs.Strangers.{stranger_of}
use Rattle.adopt.specs.Finding.{bytes_at}
use Rattle.adopt.specs.Taken.{AdoptState, spans_of}

-- ---- why there are no tables

abbrev pub IsNoImage : List ℕ → Type 0
IsNoImage region = (images : List TableImage) (log_end : ℕ) → IsAdoptable region images log_end → ⊥

abbrev pub IsWhy : List ℕ → WhyDisk → Type 0
IsWhy region why.NoHead = head_of region ≡ head.NoHead
IsWhy region (why.Closed flag) = head_of region ≡ head.Closed flag
IsWhy region (why.OtherVersion version) = (head_of region ≡ head.Version version) × (reads version ≡ false)
IsWhy region why.NoImage = (version : ℕ) × (head_of region ≡ head.Version version) × (reads version ≡ true) × IsNoImage region

-- the directory names a table that the leaf does not have, the first such; no column was looked at
abbrev pub IsStranger : List (List ℕ) → List ℕ → List ℕ → Type 0
IsStranger names region name = (version : ℕ) × (d : Directory) × (reads version ≡ true) × HasDirectory version region d
    × (stranger_of names (map (λ (t : TablePlaces). t.name) d.tables) ≡ Some name)

-- if the region has a directory that is read, it names no stranger
abbrev pub HasNoStranger : List (List ℕ) → List ℕ → Type 0
HasNoStranger names region = (name : List ℕ) → IsStranger names region name → ⊥

-- why a leaf with these names finds no tables; a directory with a stranger tells the stranger, whatever its columns are
abbrev pub IsWhyFor : List (List ℕ) → List ℕ → WhyDisk → Type 0
IsWhyFor names region why.NoImage = IsWhy region why.NoImage × HasNoStranger names region
IsWhyFor names region w = IsWhy region w

-- the letters, or the bytes after the columns, make no directory
abbrev pub HasNoDirectory : List ℕ → Type 0
HasNoDirectory region = (version : ℕ) (d : Directory) → HasDirectory version region d → ⊥

-- ---- what a look leaves of a region

-- a closed region is as it was; an open one is closed, and no shorter than a head
pub record IsLeftBehind (old new : List ℕ) : Type 0 where
  pub closed : IsClosed old → new ≡ old
  pub opened : (version : ℕ) → head_of old ≡ head.Version version → head_of new ≡ head.Closed 0

-- ---- between two steps

-- the place where the region is cut off: the first column that was read, or the directory
abbrev pub cut_at : AdoptState → List ℕ → ℕ
cut_at a region = get_or (map (λ (p : Place). p.place) (columns_of a.directory)) a.left (directory_from region)

-- an adoption in progress: part of this image, whose flag was open, was taken; the region is the rest of it; each
-- column that was taken has a kind that its version allows
pub record Adopting (region : List ℕ) (a : AdoptState) (now : List ℕ) : Type 0 where
  pub reads_it : reads a.version ≡ true
  pub has : HasDirectory a.version region a.directory
  pub known : stranger_of a.names (map (λ (t : TablePlaces). t.name) a.directory.tables) ≡ None
  pub len : a.image_len ≡ length region
  pub few : a.left ≤ length (columns_of a.directory)
  pub kinds : AllByRecursion (λ (bytes : List ℕ). allows a.version (kind_in bytes) ≡ true) a.heap
  pub heap : a.heap ≡ drop a.left (map (λ (p : Place). (column_in region p).bytes) (columns_of a.directory))
  pub rest : now ≡ take (cut_at a region) (0 ∷ drop 1 region)

-- the taken columns and the region have together at most the length of the image
abbrev pub IsInImage : AdoptState → List ℕ → Type 0
IsInImage a region = length (joined a.heap) + length region ≤ a.image_len

-- what `find` finds, and the region that it leaves
abbrev pub Finds : List (List ℕ) → List ℕ → List ℕ → Result Found AdoptFault → Type 0
Finds names old new (Ok found.NoHead) = IsWhy old why.NoHead × (new ≡ old)
Finds names old new (Ok (found.Closed flag)) = IsWhy old (why.Closed flag) × (new ≡ old)
Finds names old new (Ok (found.OtherVersion version)) = IsWhy old (why.OtherVersion version) × IsLeftBehind old new
Finds names old new (Ok found.NoImage) = ((version : ℕ) × (head_of old ≡ head.Version version) × (reads version ≡ true)) × HasNoDirectory old × IsLeftBehind old new
Finds names old new (Ok (found.Stranger name)) = IsStranger names old name × IsLeftBehind old new
Finds names old new (Ok (found.Ready a)) = Adopting old a new × (a.names ≡ names) × (a.heap ≡ []) × IsInImage a new
Finds names old new (Err RegionFault) = IsBroken old new
Finds names old new (Err NoMemory) = IsLeftBehind old new

-- on every berth: an adoption is for these names, and a stranger's is a name
abbrev pub KeepsNames : List (List ℕ) → Found → Type 0
KeepsNames names (found.Ready a) = a.names ≡ names
KeepsNames names found.NoHead = ⊤
KeepsNames names (found.Closed flag) = ⊤
KeepsNames names (found.OtherVersion version) = ⊤
KeepsNames names found.NoImage = ⊤
KeepsNames names (found.Stranger name) = IsName name

-- at most 16 tables of distinct names among these, with parts that a table may be made of
pub record AreDrained (names : List (List ℕ)) (tables : List DrainTable) : Type 0 where
  pub few : length tables ≤ 16
  pub distinct : AreDistinct (map (λ (t : DrainTable). t.name) tables)
  pub known : AllByRecursion (λ (t : DrainTable). Contains names t.name) tables
  pub parts : AllByRecursion (λ (t : DrainTable). IsParts t.parts) tables
  pub writes : AllByRecursion (λ (t : DrainTable). t.parts.writes < 2 ^ 63) tables

-- the column that the next step of an adoption takes: the last that is left
abbrev pub next_span : AdoptState → Option Span
next_span a = slice_get (spans_of a.directory) (a.left - 1)

-- it has as many cells as its block has rows, of a kind that the version allows
abbrev pub NextMeansCells : List ℕ → AdoptState → Type 0
NextMeansCells region a = IfSome (next_span a) (λ s. MeanIn a.version (bytes_at region s) s.rows)

-- a step finds no image: none is left, and the blocks are no tables; or the next column means no such cells
abbrev pub BreaksNow : List ℕ → AdoptState → Type 0
BreaksNow region a = ((a.left ≡ 0) × (AllByRecursion (λ (t : TablePlaces). IsParts (parts_in region t)) a.directory.tables → ⊥))
    ⊎ ((0 < a.left) × (NextMeansCells region a → ⊥))

-- A step of the adoption of this image, by what it answers and the region that it leaves.
abbrev pub AdoptsOn : List ℕ → AdoptState → List ℕ → Result AdoptStep AdoptFault → Type 0
AdoptsOn region a new (Ok (More b)) = Adopting region b new × (suc b.left ≡ a.left) × IsInImage b new × NextMeansCells region a
AdoptsOn region a new (Ok NoImage) = BreaksNow region a × IsNoImage region × IsLeftBehind region new
AdoptsOn region a new (Ok (Finished tables log_end)) = IsAdoptable region (images_of tables) log_end × IsLeftBehind region new
AdoptsOn region a new (Err RegionFault) = IsClosed new
AdoptsOn region a new (Err NoMemory) = IsLeftBehind region new

-- on every berth
abbrev pub AreAdopted : List (List ℕ) → Result AdoptStep AdoptFault → Type 0
AreAdopted names (Ok (Finished tables log_end)) = AreDrained names tables × (log_end < 2 ^ 63)
AreAdopted names (Ok (More b)) = ⊤
AreAdopted names (Ok NoImage) = ⊤
AreAdopted names (Err e) = ⊤

-- on every berth: a step takes one column, for the same names
abbrev pub KeepsOn : AdoptState → AdoptStep → Type 0
KeepsOn a (More b) = (b.names ≡ a.names) × (suc b.left ≡ a.left)
KeepsOn a NoImage = ⊤
KeepsOn a (Finished tables log_end) = ⊤
