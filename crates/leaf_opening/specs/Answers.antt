-- What a start answers: the bytes of region and disk and the names of the leaf decide it.
use Rattle.std.specs.Prelude.{◌≡◌, ◌⊎◌, ℕ, List, None, Result, Ok, Err}
use Rattle.table_state.specs.Tables.{Table}
use Rattle.region_layout.specs.Images.{TableImage, image_names}
use Rattle.region_layout.specs.Region.{IsAdoptable}
use Rattle.leaf_words.specs.declared.ways.WhyDisk.{WhyDisk}
use Rattle.adopt.specs.Adopting.{IsStranger, IsWhyFor}
use Rattle.region_strangers.specs.Strangers.{stranger_of}
use Rattle.disk_backup.specs.State.{LogState}
use Rattle.disk_backup.specs.Scanning.{scanned_disk}
use Rattle.log_recovery.specs.Recovery.{IsRecovered, IsRecoveryRefusal}
use Rattle.log_recovery.specs.declared.fault.RecoveryFault.TheVariants as found
use Rattle.leaf_opening.specs.declared.opening.Opened.{Opened}
use Rattle.leaf_words.specs.declared.ways.Way.{Way}
use Rattle.leaf_words.specs.declared.ways.Way.TheVariants.{Memory, Disk}
use Rattle.leaf_opening.specs.declared.ways.OpenFault.{OpenFault}
use Rattle.leaf_opening.specs.declared.ways.OpenFault.TheVariants.{RegionFault, DiskFault, DiskDamaged, Stranger, NoMemory}

-- the region gives a leaf with these names no tables, and no stranger
abbrev pub GoesToLog : List (List ℕ) → List ℕ → Type 0
GoesToLog names region = (w : WhyDisk) × IsWhyFor names region w

-- what the bytes decide: the way of the image; or that of the log, with the reason, if it is read to its end; or a
-- stranger of the image or of the log; or that the log is damaged
abbrev pub IsAnswer : List (List ℕ) → List ℕ → List ℕ → Result Way OpenFault → Type 0
IsAnswer names region disk (Ok Memory) = (images : List TableImage) × (log_end : ℕ) × IsAdoptable region images log_end × (stranger_of names (image_names images) ≡ None)
IsAnswer names region disk (Ok (Disk w)) = IsWhyFor names region w × (tables : List Table) × (log : LogState) × IsRecovered names (scanned_disk disk) tables log
IsAnswer names region disk (Err (Stranger name)) = IsStranger names region name ⊎ (GoesToLog names region × IsRecoveryRefusal names (scanned_disk disk) (found.Stranger name))
IsAnswer names region disk (Err DiskDamaged) = GoesToLog names region × IsRecoveryRefusal names (scanned_disk disk) found.DiskDamaged
IsAnswer names region disk (Err RegionFault) = ⊥
IsAnswer names region disk (Err DiskFault) = ⊥
IsAnswer names region disk (Err NoMemory) = ⊥

-- the way of what was opened
abbrev pub way_of : Result Opened OpenFault → Result Way OpenFault
way_of (Ok o) = Ok o.way
way_of (Err e) = Err e

-- a start answers what the bytes decide, unless memory runs out or the berth fails; its disk may fail only if the
-- region gave no tables
abbrev pub IsExact : List (List ℕ) → List ℕ → List ℕ → Result Way OpenFault → Type 0
IsExact names region disk (Err RegionFault) = Unit {0}
IsExact names region disk (Err DiskFault) = GoesToLog names region
IsExact names region disk (Err NoMemory) = Unit {0}
IsExact names region disk answer = IsAnswer names region disk answer

-- the same bytes and names decide at most one answer
abbrev pub OneAnswer : Type 0
OneAnswer = (names : List (List ℕ)) (region disk : List ℕ) (a b : Result Way OpenFault) → IsAnswer names region disk a → IsAnswer names region disk b → a ≡ b
