-- The faults and reads that the lines of a leaf tell, and those that its berth counted.
use Rattle.std.specs.Prelude.{◌≡◌, ℕ, ◌-◌, ◌+◌, ◌==◌, ◌&&◌, ◌^◌, ◌≤◌, min, if◌then◌else◌, Bool, true, false, List, [], ◌∷◌}
use Rattle.berth_face.specs.Berth.{Meaning}
use Rattle.leaf_words.specs.declared.ways.Way.TheVariants.{Memory}
use Rattle.printed_lines.specs.declared.line.Ending.{Ending}
use Rattle.printed_lines.specs.declared.line.Ending.TheVariants as ends
use Rattle.printed_lines.specs.declared.line.Deed.{Deed}
use Rattle.printed_lines.specs.declared.line.Deed.TheVariants.{Start}
use Rattle.transcript.specs.Pieces.{Piece, Acted}

abbrev pub is_region_fault : Ending → Bool
is_region_fault ends.FaultRegion = true
is_region_fault _ = false

abbrev pub is_disk_fault : Ending → Bool
is_disk_fault ends.FaultDisk = true
is_disk_fault _ = false

-- a start that may read the disk: it did not come from memory, and the leaf was down
abbrev pub reads_disk : Deed → Ending → Bool
reads_disk Start (ends.Started Memory) = false
reads_disk Start ends.NotDown = false
reads_disk Start _ = true
reads_disk _ ending = false

-- how many deeds of a leaf pass the test
abbrev pub deeds_in : (Deed → Ending → Bool) → ℕ → List Piece → ℕ
deeds_in test leaf [] = 0
deeds_in test leaf (Acted l deed notes ending ∷ pieces) = (if (l == leaf) && test deed ending then 1 else 0) + deeds_in test leaf pieces
deeds_in test leaf (_ ∷ pieces) = deeds_in test leaf pieces

-- the count rose by at least `count`, or stands at the last value of a u64
abbrev pub CountRose : ℕ → ℕ → ℕ → Type 0
CountRose before now count = min (before + count) (2 ^ 64 - 1) ≤ now

-- Each fault that a leaf's lines tell was counted. If no start of the leaf read the disk, the disk was not read.
pub record CountsRose (leaf : ℕ) (pieces : List Piece) (old new : Meaning) : Type 0 where
  pub region : CountRose old.region_faults new.region_faults (deeds_in (λ deed ending. is_region_fault ending) leaf pieces)
  pub disk : CountRose old.disk_faults new.disk_faults (deeds_in (λ deed ending. is_disk_fault ending) leaf pieces)
  pub reads : deeds_in reads_disk leaf pieces ≡ 0 → new.disk_reads ≡ old.disk_reads
