-- Laws of a leaf that starts, as statements.
use Rattle.std.specs.Prelude.{◌≡◌, ℕ, ◌+◌, ◌<◌, ◌≤◌, List, [], length, slice_get, map, Option, Some, Result}
use Rattle.region_layout.specs.Region.{reads}
use Rattle.leaf_model.specs.declared.writes.Write.{Write}
use Rattle.leaf_model.specs.Content.{content}
use Rattle.row_records.specs.Records.{LogRecord}
use Rattle.berth_face.specs.Berth.{Meaning, Passes}
use Rattle.berth_face.specs.Moments.{Throughout}
use Rattle.table_state.specs.Tables.{Table, added_count}
use Rattle.disk_backup.specs.State.{LogState}
use Rattle.disk_backup.specs.Scanning.{BeginsScan}
use Rattle.leaf_history.specs.History as history
use Rattle.leaf_opening.specs.declared.opening.Opened.{Opened}
use Rattle.leaf_opening.specs.declared.ways.OpenFault.{OpenFault}
use Rattle.leaf_opening.specs.Starts.{OpensFrom, KeepsDisks}
use Rattle.crash_moments.specs.Left.{NamedStates}
use Rattle.crash_moments.specs.Base.{IsReady}
use Rattle.crash_moments.specs.Watched.{Watched, AreApart, now_of}
use Rattle.crash_moments.specs.Told.{SeenMore}
use Rattle.crash_states.specs.Standing.{Runs, Rests, StandsToOpen, StandsNow}
use Rattle.crash_states.specs.Entries.{OpensAll}

-- the names of tables
abbrev pub names_of : List Watched → List (List ℕ)
names_of ws = map (λ (w : Watched). w.name) ws

-- what opening the tables of a leaf does to its berth, whatever the result
pub record OpeningMade (a b : Meaning) (result : Result Opened OpenFault) : Type 0 where
  pub passes : Passes a b
  pub stands : StandsNow b
  pub moments : Throughout (OpensFrom a) a b
  pub disks : KeepsDisks a b result
  pub held : BeginsScan (length a.held.disk) a.held.disk b.held.disk

-- a table has what these writes come to
pub record HasContent (writes : List Write) (t : Table) : Type 0 where
  pub contents : t.contents ≡ content writes
  pub count : t.writes ≡ length writes

-- the tables that were found may be opened: each log has just their writes; `columns` bounds the columns of each, by
-- the spare ones and one for each row and each cell that its writes add
pub record FindsOpenable (ws : List Watched) (log : LogState) (tables : List Table) (columns : List ℕ) (writes : List ℕ → List Write) (m : Meaning) : Type 0 where
  pub may : StandsToOpen ws log writes m
  pub contents : (place : ℕ) (w : Watched) (t : Table) → slice_get ws place ≡ Some w → slice_get tables place ≡ Some t → HasContent (writes w.name) t
  pub few : (place : ℕ) (w : Watched) (n : ℕ) → slice_get ws place ≡ Some w → slice_get columns place ≡ Some n → n ≤ (now_of w).spare + added_count (writes w.name)

-- the tables were opened
pub record Opens (ws ws' : List Watched) (owner : ℕ) (log : LogState) (writes : List ℕ → List Write) (m : Meaning) : Type 0 where
  pub runs : Runs ws' owner log writes m
  pub more : SeenMore m.clock m.clock ws ws'

-- tables with the base of a berth, before their steward has seen an entry
pub record AreUnseen (base : NamedStates) (ws : List Watched) : Type 0 where
  pub apart : AreApart ws
  pub each : (place : ℕ) (w : Watched) → slice_get ws place ≡ Some w → (w.base ≡ base w.name) × (w.seen ≡ [])

-- over a ready berth a leaf rests with the berth's base
abbrev pub ReadyRests : Meaning → Type 0
ReadyRests m = (base : NamedStates) (ws : List Watched) → IsReady reads m base → AreUnseen base ws → (least : List ℕ → List Write) × (next : Option LogRecord) × Rests ws base least next m

-- the tables that are found may be opened, each with the writes that the logs have of it, and then the leaf runs
pub record FoundRuns (m : Meaning) : Type 0 where
  pub openable : (ws : List Watched) (log : LogState) (writes : List ℕ → List Write) (place : ℕ) (w : Watched)
      → StandsToOpen ws log writes m → slice_get ws place ≡ Some w → history.MayOpen (now_of w) (length (writes w.name)) (content (writes w.name))
  pub opens : (ws ws' : List Watched) (owner : ℕ) (log : LogState) (writes : List ℕ → List Write)
      → StandsToOpen ws log writes m → 0 < length ws → OpensAll m.clock writes ws ws' → Opens ws ws' owner log writes m
