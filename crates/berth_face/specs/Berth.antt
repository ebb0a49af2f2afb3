-- What the calls of a berth do, and what a crash may leave at each moment.
use Rattle.std.specs.Prelude.{◌≡◌, ◌≢◌, ◌⊎◌, ◌↔◌, ℕ, ◌+◌, ◌-◌, ◌^◌, ◌<◌, ◌≤◌, min, max, Bool, true, false, List, [], ◌++◌, length, take, drop, replicate, slice_index, Result, OnOk, OnErr, IfOk}

-- the contents of region and disk
pub record Pair : Type 0 where
  pub region : List ℕ
  pub disk : List ℕ

-- all that a berth means
pub record Meaning : Type 1 where
  -- whether it tells its contents; if not, `held`, `leaves` and `regions` say nothing
  pub tells : Bool
  -- what reads give
  pub held : Pair
  -- the moment, which never falls
  pub clock : ℕ
  -- the pairs that a crash at a moment may leave
  pub leaves : ℕ → Pair → Type 0
  -- the regions that may be there at a moment: the one that reads give, and inside a call what it may have made by then
  pub regions : ℕ → List ℕ → Type 0
  pub region_faults : ℕ
  pub disk_faults : ℕ
  pub disk_reads : ℕ

-- a region of which nothing is used: shorter than 16 bytes, or its first byte, the flag, is not 1
abbrev pub IsClosed : List ℕ → Type 0
IsClosed region = (length region < 16) ⊎ (slice_index region 0 ≢ 1)

-- `old` with these bytes at this place; a gap before it is filled with zeros
abbrev pub written : ℕ → List ℕ → List ℕ → List ℕ
written at bytes old = take at (old ++ replicate (at - length old) 0) ++ bytes ++ drop (at + length bytes) old

-- a write of n bytes was cut short: any bytes may be in its range and past the old end; elsewhere they are the same
pub record Torn (at n : ℕ) (old new : List ℕ) : Type 0 where
  pub before : take (min at (length old)) new ≡ take at old
  pub after : drop (at + n) new ≡ drop (at + n) old
  pub no_shorter : length old ≤ length new
  pub no_longer : length new ≤ max (length old) (at + n)

-- a cut to n bytes was cut short: the length is between n and the old one
pub record Cut (n : ℕ) (old new : List ℕ) : Type 0 where
  pub no_shorter : min n (length old) ≤ length new
  pub front : new ≡ take (length new) old

-- time goes on, past moments stay, and no count of faults falls
pub record Passes (old new : Meaning) : Type 0 where
  pub tells : new.tells ≡ old.tells
  pub later : old.clock ≤ new.clock
  pub past : (t : ℕ) (p : Pair) → t ≤ old.clock → new.leaves t p ↔ old.leaves t p
  pub past_regions : (t : ℕ) (region : List ℕ) → t ≤ old.clock → new.regions t region ↔ old.regions t region
  pub region_faults : old.region_faults ≤ new.region_faults
  pub disk_faults : old.disk_faults ≤ new.disk_faults

-- the contents stay, and so do the pairs of the present, also at a moment that is added
pub record Stays (old new : Meaning) : Type 0 where
  pub held : new.held ≡ old.held
  pub leaves : (t : ℕ) (p : Pair) → old.clock ≤ t → t ≤ new.clock → new.leaves t p ↔ old.leaves old.clock p
  pub regions : (t : ℕ) (region : List ℕ) → old.clock ≤ t → t ≤ new.clock → new.regions t region ↔ old.regions old.clock region

-- a call that changes something takes two moments at least; one that fails and changes nothing need not
abbrev pub Ticks : {T E : Type 0} → Result T E → Meaning → Meaning → Type 0
Ticks result old new = OnOk result (old.clock + 2 ≤ new.clock) × OnErr result ((old.clock + 2 ≤ new.clock) ⊎ Stays old new)

-- each pair of a moment inside the call comes from a pair of the moment before the call, by a step
abbrev pub Inside : (Pair → Pair → Type 0) → Meaning → Meaning → Type 0
Inside step old new = (t : ℕ) (p : Pair) → old.clock < t → t < new.clock → new.leaves t p → (q : Pair) × old.leaves old.clock q × step q p

-- each pair of the moment at which the call ended comes from a pair before the call, by a step
abbrev pub Ended : (Pair → Pair → Type 0) → Meaning → Meaning → Type 0
Ended step old new = (p : Pair) → new.leaves new.clock p → (q : Pair) × old.leaves old.clock q × step q p

-- each region that may be there at a moment inside the call is one that the call makes
abbrev pub Making : (List ℕ → Type 0) → Meaning → Meaning → Type 0
Making makes old new = (t : ℕ) (region : List ℕ) → old.clock < t → t < new.clock → new.regions t region → makes region

-- a read gives what is there, and fewer bytes than asked only if the content ends
abbrev pub Gives : {E : Type 0} → ℕ → List ℕ → Result ℕ E → List ℕ → Type 0
Gives at content result buf = IfOk result (λ n. (n ≡ min (length buf) (length content - at)) × (take n buf ≡ take n (drop at content)))

-- a step of an unfinished call on the region: the region is one that the call makes, or, if the machine went down, any
-- closed one; the disk is as it was
abbrev pub RegionStep : (List ℕ → Type 0) → Pair → Pair → Type 0
RegionStep makes q p = (makes p.region ⊎ IsClosed p.region) × (p.disk ≡ q.disk)

-- the disk is as it was
abbrev pub SameDisk : Pair → Pair → Type 0
SameDisk q p = p.disk ≡ q.disk

-- a step of a call on the disk: the region is as it was
abbrev pub DiskStep : (List ℕ → List ℕ → Type 0) → Pair → Pair → Type 0
DiskStep makes q p = (p.region ≡ q.region) × makes q.disk p.disk

pub record RegionWritten {T E : Type 0} (at : ℕ) (bytes : List ℕ) (result : Result T E) (old new : Meaning) : Type 0 where
  pub disk : new.held.disk ≡ old.held.disk
  pub ok : OnOk result (new.held.region ≡ written at bytes old.held.region)
  pub err : OnErr result (Torn at (length bytes) old.held.region new.held.region)
  pub too_far : 2 ^ 63 ≤ at + length bytes → Stays old new
  pub ticks : Ticks result old new
  pub inside : Inside (RegionStep (Torn at (length bytes) old.held.region)) old new
  pub ended : Ended SameDisk old new
  pub meanwhile : Making (Torn at (length bytes) old.held.region) old new

pub record RegionCut {T E : Type 0} (len : ℕ) (result : Result T E) (old new : Meaning) : Type 0 where
  pub disk : new.held.disk ≡ old.held.disk
  pub ok : OnOk result (new.held.region ≡ take len old.held.region)
  pub err : OnErr result (Cut len old.held.region new.held.region)
  pub ticks : Ticks result old new
  pub inside : Inside (RegionStep (Cut len old.held.region)) old new
  pub ended : Ended SameDisk old new
  pub meanwhile : Making (Cut len old.held.region) old new

pub record DiskWritten {T E : Type 0} (at : ℕ) (bytes : List ℕ) (result : Result T E) (old new : Meaning) : Type 0 where
  pub region : new.held.region ≡ old.held.region
  pub ok : OnOk result (new.held.disk ≡ written at bytes old.held.disk)
  pub err : OnErr result (Torn at (length bytes) old.held.disk new.held.disk)
  pub too_far : 2 ^ 63 ≤ at + length bytes → Stays old new
  pub ticks : Ticks result old new
  pub inside : Inside (DiskStep (Torn at (length bytes))) old new
  pub ended : Ended (DiskStep (Torn at (length bytes))) old new
  pub meanwhile : Making (λ region. region ≡ old.held.region) old new

pub record DiskSynced {T E : Type 0} (result : Result T E) (old new : Meaning) : Type 0 where
  pub held : new.held ≡ old.held
  pub ticks : Ticks result old new
  pub inside : (t : ℕ) (p : Pair) → old.clock < t → t < new.clock → new.leaves t p → old.leaves old.clock p
  pub ended : (p : Pair) → new.leaves new.clock p → old.leaves old.clock p
  pub durable : OnOk result ((p : Pair) → new.leaves new.clock p → p.disk ≡ old.held.disk)
  pub meanwhile : Making (λ region. region ≡ old.held.region) old new

-- the meaning of a berth that tells nothing of its contents
abbrev pub untold : ℕ → ℕ → ℕ → Meaning
untold region_faults disk_faults disk_reads = record {
  tells = false;
  held = record { region = []; disk = [] };
  clock = 0;
  leaves = λ t p. ⊥;
  regions = λ t region. ⊥;
  region_faults = region_faults;
  disk_faults = disk_faults;
  disk_reads = disk_reads;
}

-- a berth that was opened on these contents, and tells them
pub record OpenedOn (region disk : List ℕ) (m : Meaning) : Type 0 where
  pub tells : m.tells ≡ true
  pub held : m.held ≡ record { region = region; disk = disk }
  pub pairs : (p : Pair) → m.leaves m.clock p → ((p.region ≡ region) ⊎ IsClosed p.region) × (p.disk ≡ disk)
