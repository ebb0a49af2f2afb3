-- What the record of a berth's calls says of each earlier moment.
use Rattle.std.specs.Prelude.{◌≡◌, ◌⊎◌, ℕ, zero, suc, ◌+◌, true, List, [], ◌∷◌, ◌++◌, length, take, drop}
use Rattle.berth_face.specs.Berth.{Pair, Meaning, Torn, Cut}
use Rattle.berth_mem.specs.declared.record.Wrote.{Wrote}
use Rattle.berth_mem.specs.declared.record.BerthCall.{BerthCall}
use Rattle.berth_mem.specs.declared.record.BerthCall.TheVariants.{WroteRegion, CutRegion, WroteDisk, SyncedDisk}

-- w records a write: its place and length, the bytes that it overwrote, and the length of the content before it
pub record Describes (w : Wrote) (at : ℕ) (bytes old : List ℕ) : Type 0 where
  pub at_is : w.at ≡ at
  pub len_is : w.len ≡ length bytes
  pub was_is : w.was ≡ length old
  pub lost_is : w.lost.items ≡ take (length bytes) (drop at old)

-- the content before a write: what it overwrote is put back
abbrev pub undone : Wrote → List ℕ → List ℕ
undone w new = take w.was (take w.at new ++ w.lost.items ++ drop (w.at + length w.lost.items) new)

abbrev pub region_undone : BerthCall → List ℕ → List ℕ
region_undone (WroteRegion w) new = undone w new
region_undone (CutRegion c) new = new ++ c.lost.items
region_undone (WroteDisk w) new = new
region_undone SyncedDisk new = new

abbrev pub disk_undone : BerthCall → List ℕ → List ℕ
disk_undone (WroteRegion w) new = new
disk_undone (CutRegion c) new = new
disk_undone (WroteDisk w) new = undone w new
disk_undone SyncedDisk new = new

-- the region and the disk before these calls, which led to `now`
abbrev pub region_before : List BerthCall → List ℕ → List ℕ
region_before [] now = now
region_before (c ∷ calls) now = region_undone c (region_before calls now)

abbrev pub disk_before : List BerthCall → List ℕ → List ℕ
disk_before [] now = now
disk_before (c ∷ calls) now = disk_undone c (disk_before calls now)

-- the disks that a crash may leave after a call, by those that it may leave before; `now` is what reads give after it
abbrev pub disks_after : BerthCall → List ℕ → (List ℕ → Type 0) → List ℕ → Type 0
disks_after (WroteRegion w) now disks d = disks d
disks_after (CutRegion c) now disks d = disks d
disks_after (WroteDisk w) now disks d = ((e : List ℕ) × disks e × Torn w.at w.len e d) ⊎ (d ≡ now)
disks_after SyncedDisk now disks d = d ≡ now

-- the pairs between two calls: the region as it is or lost, and any of these disks
abbrev pub resting : List ℕ → (List ℕ → Type 0) → Pair → Type 0
resting region disks p = ((p.region ≡ region) ⊎ (p.region ≡ [])) × disks p.disk

-- the pairs inside a call on this region and these disks
abbrev pub during : BerthCall → List ℕ → (List ℕ → Type 0) → Pair → Type 0
during (WroteRegion w) region disks p = (Torn w.at w.len region p.region ⊎ (p.region ≡ [])) × disks p.disk
during (CutRegion c) region disks p = (Cut c.len region p.region ⊎ (p.region ≡ [])) × disks p.disk
during (WroteDisk w) region disks p = ((p.region ≡ region) ⊎ (p.region ≡ [])) × ((d : List ℕ) × disks d × Torn w.at w.len d p.disk)
during SyncedDisk region disks p = resting region disks p

-- the regions inside a call: what it may have made of this region by then
abbrev pub made_of : BerthCall → List ℕ → List ℕ → Type 0
made_of (WroteRegion w) region now = Torn w.at w.len region now
made_of (CutRegion c) region now = Cut c.len region now
made_of (WroteDisk w) region now = now ≡ region
made_of SyncedDisk region now = now ≡ region

-- the last moment of these calls: two for each
abbrev pub moments : List BerthCall → ℕ
moments [] = zero
moments (c ∷ calls) = suc (suc (moments calls))

-- the pairs at a moment of these calls, which led to `region` and `disk`; before them a crash left one of `disks`
abbrev pub leaves_at : List BerthCall → List ℕ → List ℕ → (List ℕ → Type 0) → ℕ → Pair → Type 0
leaves_at calls region disk disks zero p = resting (region_before calls region) disks p
leaves_at [] region disk disks (suc t) p = ⊥
leaves_at (c ∷ calls) region disk disks (suc zero) p = during c (region_before (c ∷ calls) region) disks p
leaves_at (c ∷ calls) region disk disks (suc (suc t)) p = leaves_at calls region disk (disks_after c (disk_before calls disk) disks) t p

-- the regions that may be there at a moment of these calls, which led to `region`
abbrev pub regions_at : List BerthCall → List ℕ → ℕ → List ℕ → Type 0
regions_at calls region zero now = now ≡ region_before calls region
regions_at [] region (suc t) now = ⊥
regions_at (c ∷ calls) region (suc zero) now = made_of c (region_before (c ∷ calls) region) now
regions_at (c ∷ calls) region (suc (suc t)) now = regions_at calls region t now

-- all that a berth in memory means
abbrev pub meaning_of : List ℕ → List ℕ → List BerthCall → ℕ → ℕ → ℕ → Meaning
meaning_of region disk calls region_faults disk_faults disk_reads = record {
  tells = true;
  held = record { region = region; disk = disk };
  clock = moments calls;
  leaves = leaves_at calls region disk (λ d. d ≡ disk_before calls disk);
  regions = regions_at calls region;
  region_faults = region_faults;
  disk_faults = disk_faults;
  disk_reads = disk_reads;
}
