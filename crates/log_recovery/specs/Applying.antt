-- The tables while a log is read.
use Rattle.std.specs.Prelude.{◌≡◌, ℕ, ◌+◌, ◌<◌, ◌≤◌, ◌^◌, Bool, true, false, IsTrue, List, [], ◌∷◌, ◌++◌, length, take, None, Result, Ok, Err, ⊤, bytes_eq}
use Rattle.std.specs.List.{list_any}
use Rattle.leaf_model.specs.declared.writes.Write.{Write}
use Rattle.leaf_model.specs.Content.{content_from}
use Rattle.row_records.specs.Records.{LogRecord}
use Rattle.table_state.specs.Tables.{Table, bare, no_store}
use Rattle.table_state.specs.declared.fault.AddFault.{AddFault}
use Rattle.table_state.specs.declared.fault.AddFault.TheVariants as add
use Rattle.disk_backup.specs.Logs.{IsBounded}
use Rattle.disk_backup.specs.State.{ScanState}
use Rattle.disk_backup.specs.Scanning.{Scanned}
use Rattle.log_recovery.specs.declared.fault.RecoveryFault.{RecoveryFault}
use Rattle.log_recovery.specs.declared.fault.RecoveryFault.TheVariants.{DiskFault, DiskDamaged, Stranger, NoMemory}
use Rattle.log_recovery.specs.Recovery.{AreFew, IsTooLong, stranger_in, recovered_tables}

-- the writes are replayed: after each the table has at most 2^40 rows, or a prefix of them would take it past that
abbrev pub ReplaysAll : Table → List Write → Result (Unit {0}) AddFault → Table → Type 0
ReplaysAll t writes (Ok done) now = ((k : ℕ) → length (content_from t.contents (take k writes)).rows ≤ 2 ^ 40)
    × (bare now ≡ record { contents = content_from t.contents writes; writes = t.writes + length writes; pending = t.pending; store = no_store })
ReplaysAll t writes (Err add.Full) now = (k : ℕ) × (2 ^ 40 < length (content_from t.contents (take k writes)).rows)
ReplaysAll t writes (Err add.NoMemory) now = ⊤

-- each record is of one of these tables, they have the writes of the records, and none grew too long
pub record HasApplied (names : List (List ℕ)) (records : List LogRecord) (tables : List Table) : Type 0 where
  pub known : stranger_in names records ≡ None
  pub bounded : IsBounded records
  pub tables_are : tables ≡ recovered_tables names records

-- how many writes the records have
abbrev pub count_of : List LogRecord → ℕ
count_of [] = 0
count_of (r ∷ records) = length r.writes + count_of records

-- some records were applied, and their writes and `more` can be counted together
pub record MayApply (names : List (List ℕ)) (more : ℕ) (tables : List Table) : Type 0 where
  pub records : List LogRecord
  pub applied : HasApplied names records tables
  pub room : count_of records + more < 2 ^ 63

-- one record more: it is applied; or it is of none of the tables; or it takes its table past 2^40 rows
abbrev pub Applies : List (List ℕ) → List LogRecord → LogRecord → Result (Unit {0}) RecoveryFault → List Table → Type 0
Applies names records r (Ok done) now = HasApplied names (records ++ r ∷ []) now
Applies names records r (Err (Stranger name)) now = (r.name ≡ name) × (list_any (bytes_eq name) names ≡ false)
Applies names records r (Err DiskDamaged) now = (list_any (bytes_eq r.name) names ≡ true) × IsTooLong records r
Applies names records r (Err DiskFault) now = ⊥
Applies names records r (Err NoMemory) now = ⊤

-- some records were applied; if the berth tells its disk, those up to the scan's place
pub record Reached (names : List (List ℕ)) (tells : Bool) (disk : List ℕ) (scan : ScanState) (tables : List Table) (columns : List ℕ) : Type 0 where
  pub records : List LogRecord
  pub applied : HasApplied names records tables
  pub columns_few : AreFew names records columns
  pub few : count_of records ≤ scan.at
  pub scanned : IsTrue tells → Scanned disk records scan.at
  pub len : IsTrue tells → scan.len ≡ length disk
