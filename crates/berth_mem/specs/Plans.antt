-- Which calls of a memory form fail.
use Rattle.std.specs.Prelude.{ℕ, ◌+◌, ◌-◌, ◌^◌, min, Bool, false, ◌&&◌, nat_eq, List, replicate, slice_index_or, slice_set}
use Rattle.std.specs.List.{list_any}
use Rattle.berth_mem.specs.declared.faults.Method.{Method}
use Rattle.berth_mem.specs.declared.faults.Method.TheVariants.{Take, Put, RegionLen, RegionRead, RegionWrite, RegionCut, DiskLen, DiskRead, DiskWrite, DiskSync}
use Rattle.berth_mem.specs.declared.faults.Fail.{Fail}
use Rattle.berth_mem.specs.declared.faults.Plan.{Plan}
use Rattle.berth_mem.specs.declared.faults.Plan.TheVariants.{Plain, Failing, Fused}

-- the methods, numbered
abbrev pub place : Method → ℕ
place Take = 0
place Put = 1
place RegionLen = 2
place RegionRead = 3
place RegionWrite = 4
place RegionCut = 5
place DiskLen = 6
place DiskRead = 7
place DiskWrite = 8
place DiskSync = 9

-- the n-th call of this method is in the list
abbrev pub fails_at : List Fail → Method → ℕ → Bool
fails_at fails method n = list_any (λ f. nat_eq (place f.method) (place method) && nat_eq f.count n) fails

-- the number of the next call of this method, from 1; it saturates at the greatest u64
abbrev pub next_of : List ℕ → Method → ℕ
next_of made method = min (slice_index_or made (place method) 0 + 1) (2 ^ 64 - 1)

-- the plan of this list, before the first call
abbrev pub listed : List Fail → Plan
listed fails = Failing (record { fails = fails; made = replicate 10 0 })

-- the next call of this method fails: it is in the list, or the fuse is blown
abbrev pub fails_next : Plan → Method → Bool
fails_next Plain method = false
fails_next (Failing c) method = fails_at c.fails method (next_of c.made method)
fails_next (Fused left) method = nat_eq left 0

-- the plan after one call of this method
abbrev pub after_call : Plan → Method → Plan
after_call Plain method = Plain
after_call (Failing c) method = Failing (record { fails = c.fails; made = slice_set c.made (place method) (next_of c.made method) })
after_call (Fused left) method = Fused (left - 1)
