-- The disk log: gates, records, and what a disk's bytes mean.
use Rattle.std.specs.Prelude.{◌≡◌, ◌≢◌, ℕ, ◌+◌, ◌<◌, ◌≤◌, ◌^◌, List, [], ◌∷◌, ◌++◌, length, get_or, take, bytes_eq, if◌then◌else◌}
use Rattle.std.specs.List.{flat_map, AllByRecursion}
use Rattle.leaf_model.specs.declared.writes.Write.{Write}
use Rattle.leaf_model.specs.Content.{content}
use Rattle.row_records.specs.Records.{LogRecord, IsRecord, record_bytes}

-- records, each after an open gate
abbrev pub open_records : List LogRecord → List ℕ
open_records records = flat_map (λ r. 1 ∷ record_bytes r) records

-- A closed log, to which records are written: these records, each after an open gate; at `end` a gate that is not open;
-- then any bytes. A disk of one byte that is 1, or of no byte, is a log and not closed.
pub record ClosedLog (records : List LogRecord) (end : ℕ) (disk : List ℕ) : Type 0 where
  pub gate : ℕ
  pub rest : List ℕ
  pub each : AllByRecursion IsRecord records
  pub is : disk ≡ open_records records ++ gate ∷ rest
  pub shut : gate ≢ 1
  pub end_is : end ≡ length (open_records records)

-- A disk of at most one byte is an empty log, whatever its byte. A longer one has to be a closed log.
pub data IsLog (disk : List ℕ) (records : List LogRecord) (end : ℕ) : Type 0 where
  is_short : length disk ≤ 1 → records ≡ [] → end ≡ 0 → IsLog disk records end
  is_closed : ClosedLog records end disk → 1 < length disk → IsLog disk records end

-- the writes of one table's records, in order
abbrev pub writes_of : List ℕ → List LogRecord → List Write
writes_of name [] = []
writes_of name (r ∷ records) = if bytes_eq name r.name then r.writes ++ writes_of name records else writes_of name records

-- no table has more than 2^40 rows after any of its writes
abbrev pub IsBounded : List LogRecord → Type 0
IsBounded records = (name : List ℕ) (k : ℕ) → length (content (take k (writes_of name records))).rows ≤ 2 ^ 40

-- each open gate is followed by a record and a gate, and no table is too long
abbrev pub IsSound : List ℕ → Type 0
IsSound disk = (records : List LogRecord) × (end : ℕ) × IsLog disk records end × IsBounded records

-- a disk has one log
abbrev pub OneLog : Type 0
OneLog = (disk : List ℕ) (records others : List LogRecord) (end other : ℕ) → IsLog disk records end → IsLog disk others other → (records ≡ others) × (end ≡ other)

-- If the gate at a log's end is opened, and a record and a gate that is not open follow, that record is the log's last,
-- whatever follows it.
abbrev pub OneRecordMore : Type 0
OneRecordMore = (records : List LogRecord) (r : LogRecord) (gate : ℕ) (rest : List ℕ) → AllByRecursion IsRecord records → IsRecord r → gate ≢ 1
    → IsLog (open_records records ++ 1 ∷ (record_bytes r ++ gate ∷ rest)) (records ++ r ∷ []) (length (open_records records) + 1 + length (record_bytes r))

-- a closed log is the disk's log
abbrev pub ClosedIsLog : Type 0
ClosedIsLog = (disk : List ℕ) (records : List LogRecord) (end : ℕ) → ClosedLog records end disk → IsLog disk records end

-- the disk's log is closed if the byte at its end is not 1
abbrev pub LogIsClosed : Type 0
LogIsClosed = (disk : List ℕ) (records : List LogRecord) (end : ℕ) → IsLog disk records end → end < length disk → get_or disk end 1 ≢ 1 → ClosedLog records end disk
