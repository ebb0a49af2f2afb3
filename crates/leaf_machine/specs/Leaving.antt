-- What a leaf leaves, whenever it is given up: another may begin over it.
use Rattle.std.specs.Prelude.{ℕ, List, Option, IsTrue}
use Rattle.leaf_model.specs.declared.writes.Write.{Write}
use Rattle.row_records.specs.Records.{LogRecord}
use Rattle.berth_face.specs.Berth.{Meaning}
use Rattle.disk_backup.specs.State.{LogState}
use Rattle.crash_moments.specs.Left.{NamedStates}
use Rattle.crash_moments.specs.Watched.{Watched, IsFoundation}
use Rattle.crash_states.specs.Standing.{Runs, Rests, states_of_tables}
use Rattle.crash_states.specs.Beginning.{BeginsAgain}

-- Another leaf may begin over the berth of a leaf at rest, and of one that runs.
pub record LeavesBegin (m : Meaning) : Type 0 where
  pub rests : (ws : List Watched) (others : NamedStates) (least : List ℕ → List Write) (next : Option LogRecord)
      → IsTrue m.tells → Rests ws others least next m → BeginsAgain (states_of_tables others ws m) m
  pub runs : (ws : List Watched) (others : NamedStates) (owner : ℕ) (log : LogState) (writes : List ℕ → List Write)
      → IsTrue m.tells → ((name : List ℕ) → IsFoundation (others name)) → Runs ws owner log writes m → BeginsAgain (states_of_tables others ws m) m
