-- Which pairs a picker may hand out of a record of calls.
use Rattle.std.specs.Prelude.{◌≡◌, ℕ, List, [], ◌∷◌, ⊤, if◌then◌else◌, ◌==◌, ◌%◌}
use Rattle.berth_face.specs.Berth.{Pair}
use Rattle.berth_mem.specs.declared.record.BerthCall.{BerthCall}
use Rattle.berth_mem.specs.declared.record.BerthCall.TheVariants.{WroteRegion, CutRegion, WroteDisk, SyncedDisk}
use Rattle.berth_mem.specs.Record.{region_before, during}

-- a call that is no sync
abbrev pub IsUnsynced : BerthCall → Type 0
IsUnsynced (WroteRegion w) = ⊤
IsUnsynced (CutRegion c) = ⊤
IsUnsynced (WroteDisk w) = ⊤
IsUnsynced SyncedDisk = ⊥

-- no sync is among these calls
abbrev pub Unsynced : List BerthCall → Type 0
Unsynced [] = ⊤
Unsynced (c ∷ calls) = IsUnsynced c × Unsynced calls

-- inside the first of these calls, from what the region was before it and from this disk
abbrev pub breaks_at : List BerthCall → List ℕ → List ℕ → Pair → Type 0
breaks_at [] region from p = ⊥
breaks_at (c ∷ calls) region from p = during c (region_before (c ∷ calls) region) (λ d. d ≡ from) p

-- the number of images of a moment: with the region and without it; with the writes since the last sync and without
-- them; and inside a call with none of its bytes, half of them, all, and others in their place
abbrev pub images_at : ℕ → ℕ
images_at t = if t % 2 == 0 then 4 else 16
