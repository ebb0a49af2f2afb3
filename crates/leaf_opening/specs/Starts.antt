-- What a start finds, and what it leaves.
use Rattle.std.specs.Prelude.{◌≡◌, ◌⊎◌, ℕ, Bool, true, List, [], length, None, false, Result, Ok, Err, ⊤}
use Rattle.std.specs.List.{AllByRecursion}
use Rattle.berth_face.specs.Berth.{Meaning, Pair, IsClosed, Ended, SameDisk}
use Rattle.berth_face.specs.Moments.{EachNow}
use Rattle.table_state.specs.Tables.{Table}
use Rattle.region_layout.specs.Names.{IsName}
use Rattle.region_layout.specs.Images.{TableImage, held_of, image_names}
use Rattle.region_head.specs.declared.head.Head.TheVariants.{Version}
use Rattle.region_head.specs.Head.{head_of}
use Rattle.region_layout.specs.Region.{IsAdoptable, layout}
use Rattle.leaf_words.specs.declared.ways.WhyDisk.{WhyDisk}
use Rattle.leaf_words.specs.declared.ways.WhyDisk.TheVariants as why
use Rattle.adopt.specs.Adopting.{IsWhy, IsLeftBehind, IsStranger}
use Rattle.region_strangers.specs.Strangers.{stranger_of}
use Rattle.region_head.specs.Closing.{IsBroken}
use Rattle.disk_backup.specs.Scanning.{scanned_disk, BeginsScan}
use Rattle.log_recovery.specs.Recovery.{AreFew, IsRecovered}
use Rattle.log_recovery.specs.Recovery as recovery
use Rattle.log_recovery.specs.declared.fault.RecoveryFault.TheVariants as found
use Rattle.leaf_words.specs.declared.ways.Way.{Way}
use Rattle.leaf_words.specs.declared.ways.Way.TheVariants.{Memory, Disk}
use Rattle.leaf_opening.specs.declared.ways.OpenFault.{OpenFault}
use Rattle.leaf_opening.specs.declared.ways.OpenFault.TheVariants.{RegionFault, DiskFault, DiskDamaged, Stranger, NoMemory}
use Rattle.leaf_opening.specs.declared.opening.Opened.{Opened}
use Rattle.leaf_opening.specs.OpenedLeaf.{OpenedLeaf}

-- the way of a start that finds this region and is not refused
abbrev pub IsWayOf : List ℕ → Way → Type 0
IsWayOf region Memory = (images : List TableImage) × (log_end : ℕ) × IsAdoptable region images log_end
IsWayOf region (Disk w) = IsWhy region w

-- the way that a leaf leaves for its next start: if it was up, an image has the version that a drain writes
abbrev pub IsWayLeft : Bool → List ℕ → Way → Type 0
IsWayLeft up region way = IsWayOf region way × (up ≡ true → way ≡ Memory → head_of region ≡ Version layout)

-- the way of the next start of a leaf that came this way and was not drained
abbrev pub way_after : Way → Way
way_after Memory = Disk (why.Closed 0)
way_after (Disk why.NoHead) = Disk why.NoHead
way_after (Disk (why.Closed flag)) = Disk (why.Closed flag)
way_after (Disk (why.OtherVersion version)) = Disk (why.Closed 0)
way_after (Disk why.NoImage) = Disk (why.Closed 0)

-- how a leaf of these names comes to its tables and its log: they are those of the region's image, or those of the
-- disk, as it reads then
abbrev pub IsCome : List (List ℕ) → List ℕ → List ℕ → OpenedLeaf → Way → Type 0
IsCome names region disk s Memory = (images : List TableImage) × (log_end : ℕ) × IsAdoptable region images log_end × (stranger_of names (image_names images) ≡ None)
    × (record { each = s.tables; columns = s.columns } ≡ held_of names images) × (s.log ≡ record { end = log_end; owed = None; laid = false })
IsCome names region disk s (Disk w) = IsWhy region w × (x : IsRecovered names disk s.tables s.log) × AreFew names x.records s.columns

-- the disk after a start by this way; a disk of at most one byte becomes one gate before it is read
abbrev pub disk_after : Way → List ℕ → List ℕ
disk_after Memory disk = disk
disk_after (Disk w) disk = scanned_disk disk

-- a start that came to its end
pub record StartEnded (names : List (List ℕ)) (old new : Meaning) (s : OpenedLeaf) (way : Way) : Type 0 where
  pub come : IsCome names old.held.region new.held.disk s way
  pub region : IsLeftBehind old.held.region new.held.region
  pub disk : new.held.disk ≡ disk_after way old.held.disk

-- no table owes the log anything
abbrev pub AreFresh : List Table → Type 0
AreFresh tables = AllByRecursion (λ (t : Table). t.pending ≡ None) tables

-- why a start was refused, and what it leaves of the region
abbrev pub IsOpeningRefusal : List (List ℕ) → Meaning → Meaning → OpenFault → Type 0
IsOpeningRefusal names old new RegionFault = IsBroken old.held.region new.held.region × (new.held.disk ≡ old.held.disk)
IsOpeningRefusal names old new DiskFault = IsLeftBehind old.held.region new.held.region
IsOpeningRefusal names old new DiskDamaged = IsLeftBehind old.held.region new.held.region × recovery.IsRecoveryRefusal names new.held.disk found.DiskDamaged
IsOpeningRefusal names old new (Stranger name) = IsLeftBehind old.held.region new.held.region
    × (IsStranger names old.held.region name ⊎ recovery.IsRecoveryRefusal names new.held.disk (found.Stranger name))
IsOpeningRefusal names old new NoMemory = IsLeftBehind old.held.region new.held.region

-- on every berth: a stranger's name is one
abbrev pub TellsName : OpenFault → Type 0
TellsName (Stranger name) = IsName name
TellsName RegionFault = ⊤
TellsName DiskFault = ⊤
TellsName DiskDamaged = ⊤
TellsName NoMemory = ⊤

-- the leaf that serves what was opened
abbrev pub opened_leaf : List (List ℕ) → Opened → OpenedLeaf
opened_leaf names o = record { names = names; tables = o.tables.each; columns = o.tables.columns; log = o.log }

-- ---- what a crash leaves while a leaf starts

-- A pair of a moment of a start comes from an earlier one. Its region is the earlier one, that one with its flag
-- closed, or closed. Its disk is the earlier one; or, once the region is closed, a disk that read as at most one byte
-- got its first byte. A disk of one byte was synced before that.
pub record OpensFrom (old : Meaning) (p : Pair) : Type 0 where
  pub from : Pair
  pub was : old.leaves old.clock from
  pub region : IsClosed p.region ⊎ IsBroken old.held.region p.region
  pub disk : (p.disk ≡ from.disk) ⊎ (IsClosed p.region × BeginsScan (length old.held.disk) from.disk p.disk)

-- the disks are as before if the start made no call on the disk: an image was adopted, or the region failed
abbrev pub KeepsDisks : Meaning → Meaning → Result Opened OpenFault → Type 0
KeepsDisks old new (Ok o) = o.way ≡ Memory → Ended SameDisk old new
KeepsDisks old new (Err RegionFault) = Ended SameDisk old new
KeepsDisks old new (Err fault) = ⊤

-- every crash leaves a log that was read to its end
abbrev pub IsDurable : Meaning → Opened → Type 0
IsDurable new o = (w : WhyDisk) → o.way ≡ Disk w → EachNow (λ p. p.disk ≡ new.held.disk) new
