-- What region and disk hold of the tables of a leaf, in each of its states, by what its steward has seen of them.
use Rattle.std.specs.Prelude.{◌≡◌, ◌⊎◌, ℕ, ◌+◌, ◌≤◌, true, false, List, [], length, take, slice_get, Option, Some, None, IfSome}
use Rattle.leaf_model.specs.declared.writes.Write.{Write}
use Rattle.leaf_model.specs.Content.{content}
use Rattle.row_records.specs.Records.{LogRecord}
use Rattle.table_state.specs.Tables.{Table, added_count, columns_most}
use Rattle.leaf_history.specs.History.{HistoryState, no_base}
use Rattle.berth_face.specs.Berth.{Meaning}
use Rattle.berth_face.specs.Moments.{EachNow, KeepsRegion}
use Rattle.region_layout.specs.Images.{TableImage}
use Rattle.region_layout.specs.Region.{IsAdoptable, reads}
use Rattle.disk_backup.specs.State.{LogState}
use Rattle.disk_backup.specs.Settling.{HasLog, HaveLog, with_writes}
use Rattle.drain_copy.specs.Draining.{DrainState, Draining, AllClosed}
use Rattle.region_layout.specs.ImageWrites.{AreImagesOf}
use Rattle.disk_backup.specs.SoundLogs.{HasSoundLog}
use Rattle.crash_moments.specs.Left.{NamedStates, RegionLeft}
use Rattle.crash_moments.specs.Watched.{Watched, AreWatched, IsFoundation, by_name, is_watched, now_of, others_then, was_opened}

-- what every berth promises now: a crash may leave what reads give, and leaves that region or a closed one
pub record StandsNow (m : Meaning) : Type 0 where
  pub reads : m.leaves m.clock m.held
  pub regions : KeepsRegion m

-- ---- a leaf that serves or shuts its tables

-- the log has these writes of a table, and with the owed record just those that were taken; no more were noted as
-- flushed than it has
pub record IsLogged (logged taken : List Write) (s : HistoryState) : Type 0 where
  pub front : take s.taken s.writes ≡ taken
  pub enough : s.taken ≤ length s.writes
  pub flushed : s.flushed ≤ length logged
  pub handed : s.handed ≡ false

-- the owed record is of the table at this place
abbrev pub IsOwned : List Watched → ℕ → LogRecord → Type 0
IsOwned ws owner r = (w : Watched) × (slice_get ws owner ≡ Some w) × (w.name ≡ r.name)

-- Each disk that a crash may leave has the same log, with these writes of each name, and after it the owed record. Each
-- region is closed.
pub record Runs (ws : List Watched) (owner : ℕ) (log : LogState) (writes : List ℕ → List Write) (m : Meaning) : Type 0 where
  pub watched : AreWatched m.clock ws
  pub opened : was_opened m.clock ws ≡ true
  pub stands : StandsNow m
  pub logs : HaveLog log writes m
  pub closed : AllClosed m
  pub each : (place : ℕ) (w : Watched) → slice_get ws place ≡ Some w → IsLogged (writes w.name) (with_writes log.owed writes w.name) (now_of w)
  pub owned : IfSome log.owed (IsOwned ws owner)
  pub others : (name : List ℕ) → is_watched ws name ≡ false → with_writes log.owed writes name ≡ []

-- ---- a leaf at rest

-- A shut table. Each log has a prefix of its writes: the shortest has `least`, and the longest `most`. Each log has
-- each flushed write, and of a drained table each write.
pub record IsKept (least most : List Write) (s : HistoryState) : Type 0 where
  pub shut : s.live ≡ false
  pub flushed : s.flushed ≤ length least
  pub shortest : least ≡ take (length least) s.writes
  pub longest : most ≡ take (length most) s.writes
  pub handed : s.handed ≡ true → (least ≡ s.writes) × (most ≡ s.writes)

-- the state of each name now: of the leaf's tables, and of names that it does not have
abbrev pub states_of_tables : NamedStates → List Watched → Meaning → NamedStates
states_of_tables others ws m = by_name now_of (others_then (was_opened m.clock ws) others) ws

-- the region that reads give belongs to the tables, beside each disk that a crash may leave
abbrev pub RegionRests : NamedStates → Meaning → Type 0
RegionRests tables m = EachNow (λ p. RegionLeft reads tables (record { region = m.held.region; disk = p.disk })) m

-- Each disk that a crash may leave has a log with the least writes of each name, or with those of the next record too.
-- Each table is shut. Names that the leaf does not have are as `others` says, until a table is opened for the first
-- time.
pub record Rests (ws : List Watched) (others : NamedStates) (least : List ℕ → List Write) (next : Option LogRecord) (m : Meaning) : Type 0 where
  pub watched : AreWatched m.clock ws
  pub stands : StandsNow m
  pub logs : EachNow (λ p. HasSoundLog least p.disk ⊎ HasSoundLog (with_writes next least) p.disk) m
  pub each : (name : List ℕ) → IsKept (least name) (with_writes next least name) (states_of_tables others ws m name)
  pub sound : (name : List ℕ) → IsFoundation (others name)
  pub empty : m.held.disk ≡ [] → EachNow (λ p. length p.disk ≤ 1) m
  pub region : RegionRests (states_of_tables others ws m) m

-- ---- a leaf that copies its tables

-- how many spare columns the table of a name has
abbrev pub spare_in : List Watched → List ℕ → ℕ
spare_in ws name = (by_name now_of (λ other. no_base) ws name).spare

-- all of the table is in the log, and it is shut
pub record IsTreated (writes : List Write) (s : HistoryState) : Type 0 where
  pub shut : s.live ≡ false
  pub whole : s.writes ≡ writes
  pub flushed : s.flushed ≤ length writes
  pub handed : s.handed ≡ false

-- The image that is copied has these writes of each name. So has each log, which ends where the image says, at a gate
-- that is not open. Each table has just these writes, and each region is closed.
pub record Copies (ws : List Watched) (drain : DrainState) (writes : List ℕ → List Write) (m : Meaning) : Type 0 where
  pub watched : AreWatched m.clock ws
  pub opened : was_opened m.clock ws ≡ true
  pub stands : StandsNow m
  pub images : List TableImage
  pub log_end : ℕ
  pub image : IsAdoptable drain.image images log_end
  pub same : AreImagesOf (spare_in ws) writes images
  pub logs : EachNow (λ p. HasLog writes log_end p.disk) m
  pub draining : Draining drain m.held.region
  pub closed : AllClosed m
  pub each : (place : ℕ) (w : Watched) → slice_get ws place ≡ Some w → IsTreated (writes w.name) (now_of w)
  pub others : (name : List ℕ) → is_watched ws name ≡ false → writes name ≡ []

-- the content of a table when it was shut: what its writes come to, in at most one column for each row and each cell
-- that they add, and the spare ones
pub record IsContentOf (s : HistoryState) (t : Table) : Type 0 where
  pub contents : t.contents ≡ content s.writes
  pub writes : t.writes ≡ length s.writes
  pub few : columns_most t.store ≤ s.spare + added_count s.writes

-- the same once the image is in the region
pub record Holds (ws : List Watched) (image : List ℕ) (writes : List ℕ → List Write) (m : Meaning) : Type 0 where
  pub watched : AreWatched m.clock ws
  pub opened : was_opened m.clock ws ≡ true
  pub stands : StandsNow m
  pub images : List TableImage
  pub log_end : ℕ
  pub is : IsAdoptable image images log_end
  pub same : AreImagesOf (spare_in ws) writes images
  pub logs : EachNow (λ p. HasLog writes log_end p.disk) m
  pub region : m.held.region ≡ image
  pub each : (place : ℕ) (w : Watched) → slice_get ws place ≡ Some w → IsTreated (writes w.name) (now_of w)
  pub others : (name : List ℕ) → is_watched ws name ≡ false → writes name ≡ []

-- ---- a leaf that opens its tables

-- the table may be opened with these writes
pub record MayHave (writes : List Write) (s : HistoryState) : Type 0 where
  pub shut : s.live ≡ false
  pub flushed : s.flushed ≤ length writes
  pub front : writes ≡ take (length writes) s.writes
  pub handed : s.handed ≡ true → writes ≡ s.writes

-- Each disk that a crash may leave has the same log, which is owed nothing and has these writes of each name. Each
-- region is closed.
pub record StandsToOpen (ws : List Watched) (log : LogState) (writes : List ℕ → List Write) (m : Meaning) : Type 0 where
  pub watched : AreWatched m.clock ws
  pub stands : StandsNow m
  pub owed : log.owed ≡ None
  pub logs : HaveLog log writes m
  pub closed : AllClosed m
  pub each : (place : ℕ) (w : Watched) → slice_get ws place ≡ Some w → MayHave (writes w.name) (now_of w)
  pub others : (name : List ℕ) → is_watched ws name ≡ false → writes name ≡ []
