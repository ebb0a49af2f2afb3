-- What the memory forms do besides what each source, sink and berth does.
use Rattle.std.specs.Prelude.{◌≡◌, ◌⊎◌, ℕ, List, [], Result, OnErr, IsErr, IsTrue}
use Rattle.berth_face.specs.Berth.{Pair, Meaning, Stays, OpenedOn}
use Rattle.berth_mem.specs.declared.faults.Method.{Method}
use Rattle.berth_mem.specs.declared.faults.Plan.{Plan}
use Rattle.berth_mem.specs.declared.stream.MemSource.{MemSource}
use Rattle.berth_mem.specs.declared.stream.MemSink.{MemSink}
use Rattle.berth_mem.specs.declared.berth.MemBerth.{MemBerth}
use Rattle.berth_mem.specs.Counts.{counted}
use Rattle.berth_mem.specs.Plans.{fails_next, after_call}
use Rattle.berth_mem.specs.Record.{meaning_of}

-- which calls of a source fail
abbrev pub source_plan : MemSource → Plan
source_plan source = source.plan

-- the calls of a sink that the plan fails; the sink may also run out of memory
abbrev pub sink_plan : MemSink → Plan
sink_plan sink = sink.plan

-- the calls of a berth that the plan fails; writes, cuts and syncs may also run out of memory
abbrev pub berth_plan : MemBerth → Plan
berth_plan berth = berth.plan

-- what a berth in memory means: what it holds, and what its record of calls says of each moment
abbrev pub meaning : MemBerth → Meaning
meaning berth = meaning_of berth.region.items berth.disk.items berth.calls.items berth.region_faults berth.disk_faults berth.disk_reads

-- a call on the region: the plan counts it and may fail it; a failure is counted and changes nothing else
pub record RegionCalled {T E : Type 0} (method : Method) (result : Result T E) (old new : MemBerth) : Type 0 where
  pub plan : berth_plan new ≡ after_call (berth_plan old) method
  pub fails : IsTrue (fails_next (berth_plan old) method) → IsErr result
  pub region_faults : (meaning new).region_faults ≡ counted result (meaning old).region_faults
  pub disk_faults : (meaning new).disk_faults ≡ (meaning old).disk_faults
  pub refused : OnErr result (Stays (meaning old) (meaning new))

-- a call on the disk: the same
pub record DiskCalled {T E : Type 0} (method : Method) (result : Result T E) (old new : MemBerth) : Type 0 where
  pub plan : berth_plan new ≡ after_call (berth_plan old) method
  pub fails : IsTrue (fails_next (berth_plan old) method) → IsErr result
  pub disk_faults : (meaning new).disk_faults ≡ counted result (meaning old).disk_faults
  pub region_faults : (meaning new).region_faults ≡ (meaning old).region_faults
  pub refused : OnErr result (Stays (meaning old) (meaning new))

-- a berth that was just made on these contents: it is at moment 0, and all counts are 0. In memory a region that is not
-- kept is lost.
pub record FreshOn (region disk : List ℕ) (berth : MemBerth) : Type 0 where
  pub opened : OpenedOn region disk (meaning berth)
  pub loses : (p : Pair) → (meaning berth).leaves (meaning berth).clock p → (p.region ≡ region) ⊎ (p.region ≡ [])
  pub clock : (meaning berth).clock ≡ 0
  pub region_faults : (meaning berth).region_faults ≡ 0
  pub disk_faults : (meaning berth).disk_faults ≡ 0
  pub disk_reads : (meaning berth).disk_reads ≡ 0
