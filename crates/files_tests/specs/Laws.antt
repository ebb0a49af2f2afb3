-- What holds of files in memory at each moment, as of the berth that keeps them.
use Rattle.std.specs.Prelude.{◌≡◌, ◌⊎◌, ◌↔◌, ◌^◌, ◌<◌, ℕ, List, length}
use Rattle.berth_face.specs.Berth.{Pair, IsClosed}
use Rattle.berth_mem.specs.declared.berth.MemBerth.{MemBerth}
use Rattle.berth_mem.specs.Forms.{meaning}
use Rattle.berth_mem.specs.Laws as laws

pub stands : (b : MemBerth) → (meaning b).leaves (meaning b).clock (meaning b).held
stands b = laws.stands b.region.items b.disk.items b.calls.items b.region_faults b.disk_faults b.disk_reads

pub keeps_region : (b : MemBerth) (p : Pair) → (meaning b).leaves (meaning b).clock p → (p.region ≡ (meaning b).held.region) ⊎ IsClosed p.region
keeps_region b p left = laws.keeps_or_closed b.region.items b.disk.items b.calls.items b.region_faults b.disk_faults b.disk_reads p left

pub region_now : (b : MemBerth) (region : List ℕ) → (meaning b).regions (meaning b).clock region ↔ (region ≡ (meaning b).held.region)
region_now b region = laws.region_now b.region.items b.disk.items b.calls.items b.region_faults b.disk_faults b.disk_reads region

pub short : (b : MemBerth) → (length (meaning b).held.region < 2 ^ 63) × (length (meaning b).held.disk < 2 ^ 63)
short b = (laws.vec_short b.region, laws.vec_short b.disk)
