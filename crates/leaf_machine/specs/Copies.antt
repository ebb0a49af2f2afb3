-- What a step of the copy does.
use Rattle.std.specs.Prelude.{◌≡◌, ◌≢◌, ◌⊎◌, ℕ, suc, ◌+◌, ◌≤◌, true, List, [], length, Result, Ok, Err, IfOk, IsTrue, OnErr, OnOk, ⊤}
use Rattle.leaf_model.specs.declared.writes.Write.{Write}
use Rattle.berth_face.specs.Berth.{Meaning, IsClosed, Passes}
use Rattle.berth_face.specs.Causes.{HasCause}
use Rattle.berth_face.specs.Moments.{Meanwhile, Throughout}
use Rattle.region_head.specs.declared.head.Head.TheVariants.{Version}
use Rattle.region_head.specs.Head.{head_of}
use Rattle.region_layout.specs.Region.{layout}
use Rattle.drain_copy.specs.declared.step.DrainStep.{DrainStep}
use Rattle.drain_copy.specs.declared.step.Next.{Next}
use Rattle.drain_copy.specs.declared.step.Next.TheVariants as next
use Rattle.drain_copy.specs.declared.step.RegionFault.{RegionFault}
use Rattle.drain_copy.specs.Draining.{AllClosed, DrainState, Draining, DrainsFrom, IsInRoom, IsStep, held, left}
use Rattle.drain_copy.specs.Regions.{IsCutOrBegun}
use Rattle.crash_states.specs.Standing.{Copies as Stands, StandsNow}
use Rattle.leaf_words.specs.declared.ways.Way.TheVariants.{Memory}
use Rattle.leaf_opening.specs.Starts.{IsWayLeft}
use Rattle.leaf_words.specs.declared.note.Note.{Note}
use Rattle.leaf_steward.specs.Seated.{AreFounded, Seated, watched_by}
use Rattle.leaf_steward.specs.Making.{EachNoted, IsHandedNote, Makes}
use Rattle.leaf_machine.specs.declared.copying.Copied.{Copied}
use Rattle.leaf_machine.specs.declared.copying.Copied.TheVariants as copied
use Rattle.leaf_machine.specs.States.{Copying, GoesOnCopying, RestsOn}

abbrev pub berth_of_copy : {B : Type 0} → Result (Copied B) ((Seated × B) × RegionFault) → B
berth_of_copy (Ok (copied.More leaf)) = leaf.1
berth_of_copy (Ok (copied.Finished leaf)) = leaf.1
berth_of_copy (Err x) = x.0.1

abbrev pub seats_of_copy : {B : Type 0} → Result (Copied B) ((Seated × B) × RegionFault) → Seated
seats_of_copy (Ok (copied.More leaf)) = leaf.0.seated
seats_of_copy (Ok (copied.Finished leaf)) = leaf.0
seats_of_copy (Err x) = x.0.0

-- the copy has begun, and is not over
abbrev pub IsUnderWay : Next → Type 0
IsUnderWay next.Begin = ⊥
IsUnderWay next.Copy = ⊤
IsUnderWay next.Flag = ⊤
IsUnderWay next.Nothing = ⊥

-- More: one step less is left; Finished: this was the last step, and each table is noted as handed over; Err: the
-- region failed
abbrev pub IsCopyStep : {B : Type 0} → Copying → List Note → Result (Copied B) ((Seated × B) × RegionFault) → Type 0
IsCopyStep c notes (Ok (copied.More leaf)) = (suc (left leaf.0.drain) ≡ left c.drain) × (leaf.0.seated ≡ c.seated) × (leaf.0.drain.image ≡ c.drain.image) × (notes ≡ [])
    × IsUnderWay leaf.0.drain.next
IsCopyStep c notes (Ok (copied.Finished leaf)) = (c.drain.next ≡ next.Flag) × EachNoted IsHandedNote 0 (length c.seated.tables) notes
IsCopyStep c notes (Err (leaf, fault)) = (leaf.0 ≡ c.seated) × (notes ≡ [])

-- the leaf copies on; or the copy is whole, and the next start comes from memory; or the leaf is at rest
abbrev pub CopyGoesOn : {B : Type 0} → (B → Meaning) → Copying → Meaning → Result (Copied B) ((Seated × B) × RegionFault) → Type 0
CopyGoesOn meaning c m (Ok (copied.More leaf)) = (writes : List ℕ → List Write) → Stands (watched_by c.seated) c.drain writes m → GoesOnCopying c.seated leaf.0 m (meaning leaf.1)
CopyGoesOn meaning c m (Ok (copied.Finished leaf)) = (writes : List ℕ → List Write) → Stands (watched_by c.seated) c.drain writes m
    → RestsOn c.seated leaf.0 m (meaning leaf.1) × IsWayLeft true (meaning leaf.1).held.region Memory
CopyGoesOn meaning c m (Err (leaf, fault)) = (writes : List ℕ → List Write) → Stands (watched_by c.seated) c.drain writes m → RestsOn c.seated leaf.0 m (meaning leaf.1)

-- the columns that are still held and the region together are no longer than the image
abbrev pub IsInImage : {B : Type 0} → (B → Meaning) → Copying → Result (Copied B) ((Seated × B) × RegionFault) → Type 0
IsInImage meaning c (Ok (copied.More leaf)) = length (meaning leaf.1).held.region + held leaf.0.drain ≤ length c.drain.image
IsInImage meaning c (Ok (copied.Finished leaf)) = length (meaning leaf.1).held.region ≤ length c.drain.image
IsInImage meaning c (Err x) = ⊤

-- A copy that is finished leaves the image. One that failed leaves a closed region, or just the image.
abbrev pub LeavesRegion : {B : Type 0} → (B → Meaning) → Copying → Result (Copied B) ((Seated × B) × RegionFault) → Type 0
LeavesRegion meaning c (Ok (copied.More leaf)) = ⊤
LeavesRegion meaning c (Ok (copied.Finished leaf)) = (meaning leaf.1).held.region ≡ c.drain.image
LeavesRegion meaning c (Err (leaf, fault)) = IsClosed (meaning leaf.1).held.region ⊎ ((meaning leaf.1).held.region ≡ c.drain.image)

-- all that a step of the copy does
pub record CopySteps {B : Type 0} (meaning : B → Meaning) (c : Copying) (m : Meaning) (notes : List Note) (r : Result (Copied B) ((Seated × B) × RegionFault)) : Type 0 where
  pub step : IsCopyStep c notes r
  pub made : Makes m.clock (meaning (berth_of_copy r)).clock c.seated notes (seats_of_copy r)
  pub crash : IsTrue m.tells → AreFounded c.seated → CopyGoesOn meaning c m r
  pub region : IsTrue m.tells → AreFounded c.seated → (writes : List ℕ → List Write) → Stands (watched_by c.seated) c.drain writes m → LeavesRegion meaning c r
  pub room : IsTrue m.tells → AreFounded c.seated → IsInImage meaning c r
  pub inside : IsTrue m.tells → AreFounded c.seated → c.drain.next ≢ next.Begin → Meanwhile (IsInRoom c.drain) m (meaning (berth_of_copy r))
  pub begun : IsTrue m.tells → c.drain.next ≡ next.Begin → Meanwhile (IsCutOrBegun m.held.region) m (meaning (berth_of_copy r))
  pub time : Passes m (meaning (berth_of_copy r))
  pub cause : HasCause m.region_faults (meaning (berth_of_copy r)).region_faults r
  pub reads : (meaning (berth_of_copy r)).disk_reads ≡ m.disk_reads

-- what a step of the drain does over a berth
pub record DrainMade (drain later : DrainState) (r : Result DrainStep RegionFault) (m m' : Meaning) : Type 0 where
  pub image : later.image ≡ drain.image
  pub laid : head_of drain.image ≡ Version layout
  pub step : IfOk r (λ s. IsStep drain s later)
  pub told : IsTrue m.tells → Draining drain m.held.region → OnOk r (Draining later m'.held.region)
  pub room : IsTrue m.tells → Draining drain m.held.region → OnOk r (length m'.held.region + held later ≤ length later.image)
  pub failed : IsTrue m.tells → Draining drain m.held.region → IsClosed m.held.region → OnErr r (IsClosed m'.held.region ⊎ (m'.held.region ≡ drain.image))
  pub moments : IsTrue m.tells → Draining drain m.held.region → AllClosed m → Throughout (DrainsFrom drain m) m m'
  pub inside : IsTrue m.tells → Draining drain m.held.region → drain.next ≢ next.Begin → Meanwhile (IsInRoom drain) m m'
  pub begun : IsTrue m.tells → drain.next ≡ next.Begin → Meanwhile (IsCutOrBegun m.held.region) m m'
  pub stands : IsTrue m.tells → StandsNow m'
  pub time : Passes m m'
  pub cause : HasCause m.region_faults m'.region_faults r
  pub reads : m'.disk_reads ≡ m.disk_reads
