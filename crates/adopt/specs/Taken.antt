-- What an adoption has taken of an image.
use Rattle.std.specs.Prelude.{◌≡◌, ℕ, ◌+◌, ◌<◌, ◌≤◌, ◌^◌, List, [], ◌∷◌, length, map, take, Contains}
use Rattle.std.specs.List.{AllByRecursion, flat_map}
use Rattle.column_bytes.specs.Coding.{joined}
use Rattle.region_layout.specs.declared.directory.Place.{Place}
use Rattle.region_layout.specs.declared.directory.BlockPlaces.{BlockPlaces}
use Rattle.region_layout.specs.declared.directory.TablePlaces.{TablePlaces}
use Rattle.region_layout.specs.declared.directory.Directory.{Directory}
use Rattle.region_layout.specs.Directory.{IsDirectory}
use Rattle.region_reading.specs.Reading.{IsRead}
use Rattle.adopt.specs.declared.spans.Span.{Span}

-- the directory, the number of columns that are still in the region, and the others, in their order, on the heap
pub record AdoptState : Type 0 where
  pub names : List (List ℕ)
  pub version : ℕ
  pub image_len : ℕ
  pub directory : Directory
  pub left : ℕ
  pub heap : List (List ℕ)

-- ---- the columns of a directory, each with its block's number of rows

abbrev pub span_of : ℕ → Place → Span
span_of rows p = record { place = p.place; length = p.length; rows = rows }

abbrev pub block_spans : BlockPlaces → List Span
block_spans b = map (span_of b.rows) b.columns

abbrev pub table_spans : TablePlaces → List Span
table_spans t = flat_map block_spans t.blocks

-- all columns, in their order
abbrev pub spans_of : Directory → List Span
spans_of d = flat_map table_spans d.tables

-- the total number of bytes of these columns
abbrev pub span_bytes : List Span → ℕ
span_bytes [] = 0
span_bytes (s ∷ spans) = s.length + span_bytes spans

-- ---- what an adoption keeps on every berth

-- the state of an adoption: each table has one of the names; a prefix of the directory's columns is left; the others
-- are on the heap, with so many bytes
pub record KeepsTrack (names : List (List ℕ)) (d : Directory) (place : ℕ) (left : List Span) (heap : List (List ℕ)) (held : ℕ) : Type 0 where
  pub read : IsRead place d
  pub known : AllByRecursion (λ (t : TablePlaces). Contains names t.name) d.tables
  pub front : left ≡ take (length left) (spans_of d)
  pub held_is : held ≡ length (joined heap)
  pub fits : held + span_bytes left ≤ place
