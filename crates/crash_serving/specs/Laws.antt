-- Laws of a leaf that serves or shuts its tables, as statements.
use Rattle.std.specs.Prelude.{◌≡◌, ℕ, ◌≤◌, true, false, List, [], ◌∷◌, ◌++◌, length, slice_get, slice_set, Option, Some, None, IfSome, IsSome, Result, OnOk, OnErr}
use Rattle.leaf_model.specs.declared.writes.Write.{Write}
use Rattle.row_records.specs.Records.{LogRecord, IsRecord, new_record}
use Rattle.berth_face.specs.Berth.{Meaning}
use Rattle.leaf_history.specs.Calls as call
use Rattle.leaf_history.specs.Replies as reply
use Rattle.leaf_history.specs.History.{after, untaken}
use Rattle.disk_backup.specs.State.{LogState}
use Rattle.disk_backup.specs.Settling.{with_writes, end_with}
use Rattle.crash_moments.specs.Left.{NamedStates}
use Rattle.crash_moments.specs.Watched.{Watched, IsFoundation, now_of}
use Rattle.crash_moments.specs.Told.{SeenMore, Told}
use Rattle.crash_states.specs.Standing.{Runs, Rests}
use Rattle.crash_states.specs.Entries.{Enters, ShutsAll}

-- the log once the owed record is settled: it is owed nothing
abbrev pub settled_log : LogState → LogState → Type 0
settled_log log log' = (log'.owed ≡ None) × (log'.end ≡ end_with log)

-- a log that is still owed the same record
abbrev pub owing_log : LogState → LogState → Type 0
owing_log log log' = (log'.owed ≡ log.owed) × (log'.end ≡ log.end)

-- What settling does to a leaf that runs: no entry is made, and a crash at any moment leaves what belongs to its
-- tables. After Ok the log has the owed record too.
pub record Settles {T E : Type 0} (ws : List Watched) (owner : ℕ) (log log' : LogState) (writes : List ℕ → List Write) (result : Result T E) (a b : Meaning) : Type 0 where
  pub told : (others : NamedStates) → Told others ws ws a b
  pub ok : OnOk result (Runs ws owner log' (with_writes log.owed writes) b)
  pub err : OnErr result (Runs ws owner log' writes b)

-- the record of these writes of a name; None if there are none
abbrev pub record_for : List ℕ → List Write → Option LogRecord
record_for name [] = None
record_for name (w ∷ ws) = Some (new_record name (w ∷ ws))

-- a log that was owed nothing is owed the record of the table's writes that were not taken; nothing of it is on the
-- disk
pub record Owes (pending : Option LogRecord) (log log' : LogState) : Type 0 where
  pub offered : log'.owed ≡ pending
  pub same_end : log'.end ≡ log.end
  pub not_laid : IsSome pending → log'.laid ≡ false
  pub whole : IfSome pending IsRecord

-- the writes that were not taken just before the steward's entry
abbrev pub untaken_before : {clock : ℕ} → {c : call.Call} → {r : reply.EntryReply} → {w w' : Watched} → Enters clock c r w w' → List Write
untaken_before {clock} {c} {r} {w} {w'} e = untaken (after true w.base (w.seen ++ e.between))

-- a table was taken, or shut: its writes up to now are in the log, or are owed to it
pub record TakesIn (ws : List Watched) (place : ℕ) (w w' : Watched) (n : ℕ) (log' : LogState) (writes : List ℕ → List Write) (m : Meaning) : Type 0 where
  pub runs : Runs (slice_set ws place w') place log' writes m
  pub more : SeenMore m.clock m.clock ws (slice_set ws place w')
  pub taken : (now_of w').taken ≡ n
  pub all : n ≡ length (now_of w').writes

-- a table was noted as flushed
pub record IsFlushed (ws : List Watched) (place owner : ℕ) (w' : Watched) (log : LogState) (writes : List ℕ → List Write) (m : Meaning) : Type 0 where
  pub runs : Runs (slice_set ws place w') owner log writes m
  pub more : SeenMore m.clock m.clock ws (slice_set ws place w')

-- the leaf was killed
pub record IsKilled (ws ws' : List Watched) (log : LogState) (writes : List ℕ → List Write) (m : Meaning) : Type 0 where
  pub rests : (others : NamedStates) → ((name : List ℕ) → IsFoundation (others name)) → Rests ws' others writes log.owed m
  pub more : SeenMore m.clock m.clock ws ws'

-- what happens to a leaf that runs over this berth
pub record RunsOn (m : Meaning) : Type 0 where
  pub flushed : (ws : List Watched) (place owner n : ℕ) (w w' : Watched) (log : LogState) (writes : List ℕ → List Write)
      → Runs ws owner log writes m → slice_get ws place ≡ Some w → n ≤ length (writes w.name) → Enters m.clock (call.Flushed n) reply.Noted w w'
      → IsFlushed ws place owner w' log writes m
  pub killed : (ws ws' : List Watched) (owner : ℕ) (log : LogState) (writes : List ℕ → List Write)
      → Runs ws owner log writes m → ShutsAll m.clock ws ws' → IsKilled ws ws' log writes m
