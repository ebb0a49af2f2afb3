-- All that a start does, and all that is known of the opening in it.
use Rattle.std.specs.Prelude.{◌≡◌, ◌≢◌, ℕ, ◌<◌, ◌^◌, List, length, None, Option, Result, Err, IfErr, IfOk, IsTrue}
use Rattle.std.specs.List.{AllByRecursion}
use Rattle.leaf_model.specs.declared.writes.Write.{Write}
use Rattle.row_records.specs.Records.{LogRecord}
use Rattle.berth_face.specs.Berth.{Meaning, Passes}
use Rattle.berth_face.specs.Causes.{Rose}
use Rattle.disk_backup.specs.Logs.{IsSound}
use Rattle.disk_backup.specs.Scanning.{BeginsScan}
use Rattle.table_state.specs.Tables.{Table}
use Rattle.leaf_words.specs.declared.ways.Way.{Way}
use Rattle.leaf_words.specs.declared.ways.Way.TheVariants.{Memory}
use Rattle.leaf_opening.specs.declared.opening.Opened.{Opened}
use Rattle.leaf_opening.specs.declared.ways.OpenFault.{OpenFault}
use Rattle.leaf_opening.specs.declared.ways.OpenFault.TheVariants as found
use Rattle.leaf_opening.specs.Answers.{IsExact, way_of}
use Rattle.leaf_opening.specs.Starts.{AreFresh, IsDurable, IsOpeningRefusal, IsWayOf, StartEnded, TellsName, opened_leaf}
use Rattle.crash_moments.specs.Left.{NamedStates}
use Rattle.crash_states.specs.Standing.{Rests}
use Rattle.crash_starting.specs.Laws.{OpeningMade}
use Rattle.leaf_words.specs.declared.note.Note.{Note}
use Rattle.leaf_steward.specs.Seated.{AreFounded, Seated, watched_by}
use Rattle.leaf_steward.specs.Making.{Makes}
use Rattle.leaf_machine.specs.declared.faults.StartFault.{StartFault}
use Rattle.leaf_machine.specs.declared.faults.StartFault.TheVariants as fault
use Rattle.leaf_machine.specs.States.{Serving}
use Rattle.leaf_machine.specs.Starts.{CameUp, IsExactStart, IsStart, IsStartRefused, StartGoesOn, berth_after, seats_after}

-- what the opening of tables with these names finds and does
pub record Finds (names : List (List ℕ)) (r : Result Opened OpenFault) (m m' : Meaning) : Type 0 where
  pub one : IfOk r (λ o. length o.tables.each ≡ length names)
  pub fresh : IfOk r (λ o. AreFresh o.tables.each × (o.log.owed ≡ None))
  pub room : IfOk r (λ o. AllByRecursion (λ (t : Table). t.writes < 2 ^ 63) o.tables.each)
  pub told : IsTrue m.tells → IfOk r (λ o. StartEnded names m m' (opened_leaf names o) o.way)
  pub way : IsTrue m.tells → IfOk r (λ o. IsWayOf m.held.region o.way)
  pub refused : IsTrue m.tells → IfErr r (IsOpeningRefusal names m m')
  pub exact : IsTrue m.tells → IsExact names m.held.region m.held.disk (way_of r)
  pub sound : IsTrue m.tells → IsSound m.held.disk → r ≢ Err found.DiskDamaged
  pub made : IsTrue m.tells → OpeningMade m m' r
  pub durable : IsTrue m.tells → IfOk r (IsDurable m')
  pub named : IfErr r TellsName
  pub time : Passes m m'
  pub region_cause : r ≡ Err found.RegionFault → Rose m.region_faults m'.region_faults
  pub disk_cause : r ≡ Err found.DiskFault → Rose m.disk_faults m'.disk_faults
  pub reads : IfOk r (λ o. o.way ≡ Memory → m'.disk_reads ≡ m.disk_reads)

-- all that a start does
pub record Started {B : Type 0} (meaning : B → Meaning) (x : Seated) (b : B) (notes : List Note) (r : Result ((Serving × B) × Way) ((Seated × B) × StartFault)) : Type 0 where
  pub start : IsStart x b notes r
  pub made : Makes (meaning b).clock (meaning (berth_after r)).clock x notes (seats_after r)
  pub came : IsTrue (meaning b).tells → IfOk r (λ up. CameUp x.names (meaning b) (meaning up.0.1) notes up.0.0 up.1)
  pub way : IsTrue (meaning b).tells → IfOk r (λ up. IsWayOf (meaning b).held.region up.1)
  pub refused : IsTrue (meaning b).tells → IfErr r (λ down. IsStartRefused x.names (meaning b) (meaning down.0.1) down.1)
  pub exact : IsTrue (meaning b).tells → IsExactStart x.names (meaning b).held r
  pub disk : IsTrue (meaning b).tells → BeginsScan (length (meaning b).held.disk) (meaning b).held.disk (meaning (berth_after r)).held.disk
  pub crash : (others : NamedStates) (least : List ℕ → List Write) (next : Option LogRecord) → IsTrue (meaning b).tells → AreFounded x → Rests (watched_by x) others least next (meaning b)
      → StartGoesOn meaning x (meaning b) others least next r
  pub time : Passes (meaning b) (meaning (berth_after r))
  pub region_cause : IfErr r (λ down. down.1 ≡ fault.RegionFault → Rose (meaning b).region_faults (meaning down.0.1).region_faults)
  pub disk_cause : IfErr r (λ down. down.1 ≡ fault.DiskFault → Rose (meaning b).disk_faults (meaning down.0.1).disk_faults)
  pub reads : IfOk r (λ up. up.1 ≡ Memory → (meaning up.0.1).disk_reads ≡ (meaning b).disk_reads)
