-- What an adoption of all columns comes to, and what it leaves of a region.
use Rattle.std.specs.Prelude.{◌≡◌, ℕ, ◌<◌, ◌^◌, List, length, Option, Some, None, Result, Ok, Err, IsTrue, ⊤}
use Rattle.std.specs.List.{AllByRecursion}
use Rattle.berth_face.specs.Berth.{Meaning, IsClosed, Passes, Ended, SameDisk}
use Rattle.berth_face.specs.Moments.{Throughout}
use Rattle.table_state.specs.Tables.{Table}
use Rattle.region_layout.specs.Images.{TableImage, held_of, image_names}
use Rattle.region_layout.specs.Names.{IsName}
use Rattle.region_layout.specs.Region.{IsAdoptable}
use Rattle.region_layout.specs.Drained.{images_of}
use Rattle.region_reading.specs.declared.fault.AdoptFault.{AdoptFault}
use Rattle.region_reading.specs.declared.fault.AdoptFault.TheVariants.{RegionFault, NoMemory}
use Rattle.adopt.specs.declared.found.ImageTables.{ImageTables}
use Rattle.adopt.specs.declared.found.Adopted.{Adopted}
use Rattle.adopt.specs.declared.found.Adoption.{Adoption}
use Rattle.adopt.specs.declared.found.Adoption.TheVariants.{NoTables, Stranger, Tables}
use Rattle.adopt.specs.Adopting.{Adopting, AreDrained, IsLeftBehind, IsNoImage, IsStranger, IsWhyFor}
use Rattle.region_strangers.specs.Strangers.{stranger_of}
use Rattle.region_head.specs.Closing.{ClosedFrom, IsBroken}
use Rattle.adopt.specs.Taken.{AdoptState}

-- ---- all columns of an image

-- all columns were taken, and these are the tables of the image; or it is none
abbrev pub TakesAll : List ℕ → List ℕ → Result (Option ImageTables) AdoptFault → Type 0
TakesAll region new (Ok None) = IsNoImage region × IsLeftBehind region new
TakesAll region new (Ok (Some d)) = IsAdoptable region (images_of d.tables) d.log_end × IsLeftBehind region new
TakesAll region new (Err RegionFault) = IsClosed new
TakesAll region new (Err NoMemory) = IsLeftBehind region new

-- on every berth
abbrev pub IsDrained : List (List ℕ) → ImageTables → Type 0
IsDrained names d = AreDrained names d.tables × (d.log_end < 2 ^ 63)

-- some of the columns that were left at first were taken
pub record TookSome (first now : AdoptState) (old new : Meaning) : Type 0 where
  pub names : now.names ≡ first.names
  pub told : (region : List ℕ) → IsTrue old.tells → Adopting region first old.held.region → Adopting region now new.held.region
  pub moments : (region : List ℕ) → IsTrue old.tells → Adopting region first old.held.region → Throughout (ClosedFrom old) old new
  pub disk : IsTrue old.tells → new.held.disk ≡ old.held.disk
  pub disks : IsTrue old.tells → Ended SameDisk old new
  pub time : Passes old new
  pub reads : new.disk_reads ≡ old.disk_reads

-- ---- the tables of a leaf

-- the tables of these names, out of those of the image
pub record AreArranged (names : List (List ℕ)) (d : ImageTables) (a : Adopted) : Type 0 where
  pub tables : a.tables ≡ held_of names (images_of d.tables)
  pub log_end : a.log_end ≡ d.log_end

-- the tables of these names out of the region's image, which has no table of another name; or why there are none
abbrev pub IsAdoption : List (List ℕ) → List ℕ → Adoption → Type 0
IsAdoption names region (NoTables why) = IsWhyFor names region why
IsAdoption names region (Stranger name) = IsStranger names region name
IsAdoption names region (Tables a) = (images : List TableImage) × IsAdoptable region images a.log_end × (stranger_of names (image_names images) ≡ None) × (a.tables ≡ held_of names images)

-- what an adoption comes to, and the region that it leaves
abbrev pub Adopts : List (List ℕ) → List ℕ → List ℕ → Result Adoption AdoptFault → Type 0
Adopts names old new (Ok found) = IsAdoption names old found × IsLeftBehind old new
Adopts names old new (Err RegionFault) = IsBroken old new
Adopts names old new (Err NoMemory) = IsLeftBehind old new

-- on every berth: a stranger's name is one; or there is one table for each name, which owes the log nothing and has
-- fewer than 2^63 writes, and a log's end below 2^63
abbrev pub HasTables : ℕ → Adoption → Type 0
HasTables count (NoTables why) = ⊤
HasTables count (Stranger name) = IsName name
HasTables count (Tables a) = (length a.tables.each ≡ count) × AllByRecursion (λ (t : Table). (t.pending ≡ None) × (t.writes < 2 ^ 63)) a.tables.each × (a.log_end < 2 ^ 63)
