-- A region whose flag is closed, and how a column is taken off it.
use Rattle.std.specs.Prelude.{◌≡◌, List, ℕ, take, drop, Option, Some, None, Result, Ok, Err}
use Rattle.berth_face.specs.Berth.{IsClosed}
use Rattle.region_layout.specs.Region.{MeanIn}
use Rattle.adopt.specs.declared.spans.Span.{Span}
use Rattle.region_reading.specs.declared.fault.AdoptFault.{AdoptFault}
use Rattle.region_reading.specs.declared.fault.AdoptFault.TheVariants.{RegionFault, NoMemory}

-- the bytes of a column of this region
abbrev pub bytes_at : List ℕ → Span → List ℕ
bytes_at region s = take s.length (drop s.place region)

-- taking a column: it is read, and the region is cut off at its place; or the region stays, because the version does
-- not allow the column, or it has not one cell for each row of its block
abbrev pub TakesSpan : ℕ → Span → List ℕ → List ℕ → Result (Option (List ℕ)) AdoptFault → Type 0
TakesSpan version s old new (Ok None) = (MeanIn version (bytes_at old s) s.rows → ⊥) × (new ≡ old)
TakesSpan version s old new (Ok (Some bytes)) = (bytes ≡ bytes_at old s) × (new ≡ take s.place old) × MeanIn version (bytes_at old s) s.rows
TakesSpan version s old new (Err RegionFault) = IsClosed new
TakesSpan version s old new (Err NoMemory) = new ≡ old
