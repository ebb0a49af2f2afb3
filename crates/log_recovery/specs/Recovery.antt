-- The tables that a log gives back.
use Rattle.std.specs.Prelude.{◌≡◌, ◌⊎◌, ℕ, ◌<◌, ◌≤◌, ◌^◌, Bool, true, false, not, List, [], ◌∷◌, ◌++◌, length, map, take, slice_get, Option, Some, None, option_map, IsUtf8, ⊤, bytes_eq}
use Rattle.std.specs.List.{find, list_any}
use Rattle.leaf_model.specs.Content.{content}
use Rattle.row_records.specs.Records.{LogRecord}
use Rattle.table_state.specs.Tables.{Table, added_count, no_store}
use Rattle.disk_backup.specs.Logs.{ClosedLog, IsBounded, writes_of}
use Rattle.disk_backup.specs.State.{LogState}
use Rattle.disk_backup.specs.Scanning.{Scanned, Damaged}
use Rattle.log_recovery.specs.declared.fault.RecoveryFault.{RecoveryFault}
use Rattle.log_recovery.specs.declared.fault.RecoveryFault.TheVariants.{DiskFault, DiskDamaged, Stranger, NoMemory}

-- a table of this name after the writes of the records
abbrev pub recovered_table : List LogRecord → List ℕ → Table
recovered_table records name = record { contents = content (writes_of name records); writes = length (writes_of name records); pending = None; store = no_store }

-- the tables of these names, in their order
abbrev pub recovered_tables : List (List ℕ) → List LogRecord → List Table
recovered_tables names records = map (recovered_table records) names

-- each table has at most a column for each row and each cell that the records add to it
abbrev pub AreFew : List (List ℕ) → List LogRecord → List ℕ → Type 0
AreFew names records columns = (place : ℕ) (name : List ℕ) (n : ℕ) → slice_get names place ≡ Some name → slice_get columns place ≡ Some n → n ≤ added_count (writes_of name records)

abbrev pub is_stranger_record : List (List ℕ) → LogRecord → Bool
is_stranger_record names r = not (list_any (bytes_eq r.name) names)

-- the name of the first record that is of no table with one of these names
abbrev pub stranger_in : List (List ℕ) → List LogRecord → Option (List ℕ)
stranger_in names records = option_map (λ (r : LogRecord). r.name) (find (is_stranger_record names) records)

-- the disk's log was read to its end: each record is of one of the tables, and no table grew too long
pub record IsRecovered (names : List (List ℕ)) (disk : List ℕ) (tables : List Table) (log : LogState) : Type 0 where
  pub records : List LogRecord
  pub closed : ClosedLog records log.end disk
  pub known : stranger_in names records ≡ None
  pub bounded : IsBounded records
  pub tables_are : tables ≡ recovered_tables names records
  pub log_is : log ≡ record { end = log.end; owed = None; laid = false }

-- the next record is r; each record before it was of one of the tables, and no table grew too long
pub record ComesTo (names : List (List ℕ)) (disk : List ℕ) (records : List LogRecord) (r : LogRecord) : Type 0 where
  pub at : ℕ
  pub scanned : Scanned disk (records ++ r ∷ []) at
  pub known : stranger_in names records ≡ None
  pub bounded : IsBounded records

-- after some writes of the record its table has more than 2^40 rows
abbrev pub IsTooLong : List LogRecord → LogRecord → Type 0
IsTooLong records r = (k : ℕ) × (2 ^ 40 < length (content (take k (writes_of r.name (records ++ r ∷ [])))).rows)

-- an open gate with no record and gate behind it
pub record IsDamagedLog (names : List (List ℕ)) (disk : List ℕ) : Type 0 where
  pub records : List LogRecord
  pub at : ℕ
  pub scanned : Scanned disk records at
  pub known : stranger_in names records ≡ None
  pub bounded : IsBounded records
  pub damaged : Damaged disk at

-- why a log that reads as this disk was not read to its end: the first record or gate at fault decides; of one record a
-- stranger's name comes first
abbrev pub IsRecoveryRefusal : List (List ℕ) → List ℕ → RecoveryFault → Type 0
IsRecoveryRefusal names disk (Stranger name) = (records : List LogRecord) × (r : LogRecord) × ComesTo names disk records r × (r.name ≡ name) × (list_any (bytes_eq name) names ≡ false)
IsRecoveryRefusal names disk DiskDamaged = IsDamagedLog names disk ⊎ ((records : List LogRecord) × (r : LogRecord) × ComesTo names disk records r × (list_any (bytes_eq r.name) names ≡ true) × IsTooLong records r)
IsRecoveryRefusal names disk DiskFault = ⊤
IsRecoveryRefusal names disk NoMemory = ⊤

-- on every berth: a stranger's name is UTF-8 of at most 255 bytes
abbrev pub TellsLogName : RecoveryFault → Type 0
TellsLogName (Stranger name) = IsUtf8 name × (length name ≤ 255)
TellsLogName DiskDamaged = ⊤
TellsLogName DiskFault = ⊤
TellsLogName NoMemory = ⊤

-- a claim about the refusals that the log's bytes decide
abbrev pub IfRead : RecoveryFault → Type 0 → Type 0
IfRead (Stranger name) P = P
IfRead DiskDamaged P = P
IfRead DiskFault P = Unit {0}
IfRead NoMemory P = Unit {0}
