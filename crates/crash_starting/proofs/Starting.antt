-- What happens to a leaf that starts.
use Rattle.std.proofs.Common.{◌≡◌, ℕ, ◌<◌, List, length, Option, Some, Ok, Err, refl}
use Rattle.std.specs.Prelude.{slice_get, Result}
use Rattle.leaf_model.specs.declared.writes.Write.{Write}
use Rattle.leaf_model.specs.Content.{content}
use Rattle.row_records.specs.Records.{LogRecord}
use Rattle.berth_face.specs.Berth.{Meaning}
use Rattle.disk_backup.specs.State.{LogState}
use Rattle.leaf_history.specs.History as history
use Rattle.leaf_opening.specs.declared.opening.Opened.{Opened}
use Rattle.leaf_opening.specs.declared.ways.OpenFault.{OpenFault}
use Rattle.leaf_opening.specs.Starts.{StartEnded, IsOpeningRefusal, IsDurable, opened_leaf}
use Rattle.crash_moments.specs.Left.{NamedStates}
use Rattle.crash_moments.specs.Watched.{Watched, IsWatched, now_of}
use Rattle.crash_moments.specs.Told.{Told}
use Rattle.crash_moments.proofs.Telling.{none_more}
use Rattle.crash_states.specs.Standing.{Rests, StandsToOpen}
use Rattle.crash_states.specs.Entries.{OpensAll}
use Rattle.crash_states.proofs.Lefts.{rests_left}
use Rattle.crash_states.proofs.Names.{each_at}
use Rattle.crash_starting.specs.Laws.{OpeningMade, FindsOpenable, Opens, names_of}
use Rattle.crash_starting.proofs.Opening.{alone, rests_alone, rests_opened, region_refused}
use Rattle.crash_starting.proofs.Finding.{found_by}
use Rattle.crash_starting.proofs.Running.{may_open, opened_all}

-- at each moment, whatever comes of it
pub opening_told : (ws : List Watched) (others : NamedStates) (least : List ℕ → List Write) (next : Option LogRecord) (a b : Meaning) (result : Result Opened OpenFault)
    → Rests ws others least next a → OpeningMade a b result → Told others ws ws a b
opening_told ws others least next a b result rests made = record {
  passes = made.passes;
  more = none_more a.clock b.clock ws;
  left = λ t p from to left.
      rests_left ws others least next (alone t p) (rests_alone ws others least next a rests t p from (made.moments.each t p from to left)) p refl;
}

-- what is found may be opened
pub found : (ws : List Watched) (others : NamedStates) (least : List ℕ → List Write) (next : Option LogRecord) (a b : Meaning) (o : Opened)
    → Rests ws others least next a → OpeningMade a b (Ok o) → StartEnded (names_of ws) a b (opened_leaf (names_of ws) o) o.way → IsDurable b o
    → (writes : List ℕ → List Write) × FindsOpenable ws o.log o.tables.each o.tables.columns writes b
found ws others least next a b o rests made started durable =
    found_by ws others least next a b rests made.passes made.stands started.region (opened_leaf (names_of ws) o) o.way started.come started.disk made.disks durable

-- a refusal leaves what there was
pub refused : (ws : List Watched) (others : NamedStates) (least : List ℕ → List Write) (next : Option LogRecord) (a b : Meaning) (fault : OpenFault)
    → Rests ws others least next a → OpeningMade a b (Err fault) → IsOpeningRefusal (names_of ws) a b fault → Rests ws others least next b
refused ws others least next a b fault rests made refusal =
    rests_opened ws others least next a rests b (Err fault) made (region_refused (names_of ws) a b fault made.disks refusal)

-- each table may be opened with the writes that its logs have
pub openable : (ws : List Watched) (log : LogState) (writes : List ℕ → List Write) (m : Meaning) (place : ℕ) (w : Watched)
    → StandsToOpen ws log writes m → slice_get ws place ≡ Some w → history.MayOpen (now_of w) (length (writes w.name)) (content (writes w.name))
openable ws log writes m place w may at =
    may_open m.clock w (writes w.name) (each_at (IsWatched m.clock) ws may.watched.each place w at) (may.each place w at)

-- and opened they run
pub opens : (ws ws' : List Watched) (owner : ℕ) (log : LogState) (writes : List ℕ → List Write) (m : Meaning)
    → StandsToOpen ws log writes m → 0 < length ws → OpensAll m.clock writes ws ws' → Opens ws ws' owner log writes m
opens ws ws' owner log writes m may some all = opened_all ws ws' owner log writes m may all some
