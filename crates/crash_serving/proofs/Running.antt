-- What happens to a leaf that serves its tables, or shuts them.
use Rattle.std.proofs.Common.{◌≡◌, ℕ, ◌≤◌, List, length, Some, None}
use Rattle.std.specs.Prelude.{slice_get, Result, OnOk, OnErr}
use Rattle.leaf_model.specs.declared.writes.Write.{Write}
use Rattle.berth_face.specs.Berth.{Meaning, Passes}
use Rattle.leaf_history.specs.Calls as call
use Rattle.leaf_history.specs.Replies as reply
use Rattle.disk_backup.specs.State.{LogState}
use Rattle.disk_backup.specs.Settling.{Settled, KeepsLog}
use Rattle.crash_moments.specs.Watched.{Watched}
use Rattle.crash_states.specs.Standing.{Runs, StandsNow}
use Rattle.crash_states.specs.Entries.{Enters, ShutsAll}
use Rattle.crash_serving.specs.Laws.{Settles, settled_log, owing_log, record_for, Owes, untaken_before, TakesIn, IsFlushed, IsKilled}
use Rattle.crash_serving.proofs.Settling.{settling}
use Rattle.crash_serving.proofs.Taking.{taken_in, shut_in}
use Rattle.crash_serving.proofs.Flushing.{flushing}
use Rattle.crash_serving.proofs.Killing.{killing}

-- the log is brought what it is owed
pub settles : {T E : Type 0} (ws : List Watched) (owner : ℕ) (log log' : LogState) (writes : List ℕ → List Write) (result : Result T E) (a b : Meaning)
    → Runs ws owner log writes a → Passes a b → StandsNow b
    → Settled log log' result a b → KeepsLog log log' writes result a b
    → OnOk result (settled_log log log') → OnErr result (owing_log log log')
    → Settles ws owner log log' writes result a b
settles ws owner log log' writes result a b runs passes stands settled keeps done kept = settling ws owner log log' writes a b runs passes stands result settled keeps done kept

-- a table is taken
pub takes : (ws : List Watched) (place owner n : ℕ) (w w' : Watched) (log log' : LogState) (writes : List ℕ → List Write) (m : Meaning)
    → Runs ws owner log writes m → log.owed ≡ None → slice_get ws place ≡ Some w
    → (e : Enters m.clock call.Take (reply.Counted n) w w') → Owes (record_for w.name (untaken_before e)) log log'
    → TakesIn ws place w w' n log' writes m
takes ws place owner n w w' log log' writes m runs none at e owes = taken_in ws place owner n w w' log log' writes m runs none at e owes

-- a table is shut
pub shuts : (ws : List Watched) (place owner n : ℕ) (w w' : Watched) (log log' : LogState) (writes : List ℕ → List Write) (m : Meaning)
    → Runs ws owner log writes m → log.owed ≡ None → slice_get ws place ≡ Some w
    → (e : Enters m.clock call.Shut (reply.Counted n) w w') → Owes (record_for w.name (untaken_before e)) log log'
    → TakesIn ws place w w' n log' writes m
shuts ws place owner n w w' log log' writes m runs none at e owes = shut_in ws place owner n w w' log log' writes m runs none at e owes

-- a table is noted as flushed
pub flushes : (ws : List Watched) (place owner n : ℕ) (w w' : Watched) (log : LogState) (writes : List ℕ → List Write) (m : Meaning)
    → Runs ws owner log writes m → slice_get ws place ≡ Some w → n ≤ length (writes w.name) → Enters m.clock (call.Flushed n) reply.Noted w w'
    → IsFlushed ws place owner w' log writes m
flushes ws place owner n w w' log writes m runs at few e = flushing ws place owner n w w' log writes m runs at few e

-- the leaf is killed
pub kills : (ws ws' : List Watched) (owner : ℕ) (log : LogState) (writes : List ℕ → List Write) (m : Meaning)
    → Runs ws owner log writes m → ShutsAll m.clock ws ws' → IsKilled ws ws' log writes m
kills ws ws' owner log writes m runs all = killing ws ws' owner log writes m runs all
