-- What the calls on the two files of a leaf give and keep.
use Rattle.std.specs.Prelude.{◌≡◌, ◌↔◌, ℕ, ◌-◌, ◌<◌, ◌≤◌, List, length, take, drop, Result}
use Rattle.berth_face.specs.Berth.{Pair, Meaning, RegionWritten, DiskWritten}
use Rattle.berth_files.specs.declared.leaf_file.LeafFile.{LeafFile}
use Rattle.berth_files.specs.declared.leaf_file.LeafFile.TheVariants.{Region, Disk}

-- what a read of this file gives
abbrev pub file_content : LeafFile → Meaning → List ℕ
file_content Region m = m.held.region
file_content Disk m = m.held.disk

-- the bytes from `at` on, any number of them, but at least one if there is one and room for it
pub record GivesSome (at : ℕ) (file_content buf : List ℕ) (n : ℕ) : Type 0 where
  pub within : n ≤ length file_content - at
  pub some : 0 < length buf → 0 < length file_content - at → 0 < n
  pub bytes : take n buf ≡ take n (drop at file_content)

-- what a write into this file does, as the clauses of a berth say it
abbrev pub FileWritten : {T E : Type 0} → LeafFile → ℕ → List ℕ → Result T E → Meaning → Meaning → Type 0
FileWritten Region at bytes result old new = RegionWritten at bytes result old new
FileWritten Disk at bytes result old new = DiskWritten at bytes result old new

-- time goes on, and past moments stay; nothing is said of the counts
pub record FilesGoOn (old new : Meaning) : Type 0 where
  pub tells : new.tells ≡ old.tells
  pub later : old.clock ≤ new.clock
  pub past : (t : ℕ) (p : Pair) → t ≤ old.clock → new.leaves t p ↔ old.leaves t p
  pub past_regions : (t : ℕ) (region : List ℕ) → t ≤ old.clock → new.regions t region ↔ old.regions t region

-- the meaning of files, with these counts in place of theirs
abbrev pub counting : Meaning → ℕ → ℕ → ℕ → Meaning
counting m region_faults disk_faults disk_reads = record {
  tells = m.tells;
  held = m.held;
  clock = m.clock;
  leaves = m.leaves;
  regions = m.regions;
  region_faults = region_faults;
  disk_faults = disk_faults;
  disk_reads = disk_reads;
}

-- a berth that means what its files mean, but for the counts
pub record MeansFiles (files berth : Meaning) : Type 0 where
  pub tells : berth.tells ≡ files.tells
  pub held : berth.held ≡ files.held
  pub clock : berth.clock ≡ files.clock
  pub leaves : (t : ℕ) (p : Pair) → berth.leaves t p ↔ files.leaves t p
  pub regions : (t : ℕ) (region : List ℕ) → berth.regions t region ↔ files.regions t region
