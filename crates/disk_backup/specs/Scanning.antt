-- A log that is read record by record.
use Rattle.std.specs.Prelude.{◌≡◌, ◌⊎◌, ℕ, ◌+◌, ◌<◌, ◌≤◌, ◌^◌, List, [], ◌∷◌, ◌++◌, length, take, drop, None, false, ⊤}
use Rattle.std.specs.List.{AllByRecursion}
use Rattle.std.specs.Int.{w64, from_le_bytes}
use Rattle.row_records.specs.Records.{LogRecord, IsRecord, record_bytes}
use Rattle.berth_face.specs.Berth.{Pair, Meaning, IsClosed, Torn}
use Rattle.disk_backup.specs.Logs.{IsLog, ClosedLog, open_records}
use Rattle.disk_backup.specs.State.{ScanState}
use Rattle.disk_backup.specs.declared.step.FlushRecord.{FlushRecord}
use Rattle.disk_backup.specs.declared.step.LogStep.{LogStep}
use Rattle.disk_backup.specs.declared.step.LogStep.TheVariants.{Record, Ended}

-- ---- before the first read

-- the pair comes from an earlier one: its region is the same or closed, and its disk is one step after the earlier disk
pub record StepsFrom (step : List ℕ → List ℕ → Type 0) (old : Meaning) (p : Pair) : Type 0 where
  pub from : Pair
  pub was : old.leaves old.clock from
  pub region : (p.region ≡ from.region) ⊎ IsClosed p.region
  pub disk : step from.disk p.disk

-- A disk of `len` bytes while its first gate is written. Its first byte may be any. If it had one byte, a sync came
-- before, so it has no more than one.
pub record FirstByte (len : ℕ) (before now : List ℕ) : Type 0 where
  pub short : len ≤ 1
  pub synced : len ≡ 1 → length before ≤ 1
  pub torn : Torn 0 1 before now

-- a disk while a scan begins
abbrev pub BeginsScan : ℕ → List ℕ → List ℕ → Type 0
BeginsScan len before now = (now ≡ before) ⊎ FirstByte len before now

-- the disk that is read: a disk of at most one byte has become one gate that is not open
abbrev pub scanned_disk : List ℕ → List ℕ
scanned_disk [] = 0 ∷ []
scanned_disk (b ∷ []) = 0 ∷ []
scanned_disk (b ∷ c ∷ rest) = b ∷ c ∷ rest

-- ---- record by record

-- these records, each after an open gate, fill the disk up to `at`, and there is a byte at `at`
pub record Scanned (disk : List ℕ) (records : List LogRecord) (at : ℕ) : Type 0 where
  pub rest : List ℕ
  pub each : AllByRecursion IsRecord records
  pub is : disk ≡ open_records records ++ rest
  pub at_is : at ≡ length (open_records records)
  pub some : 0 < length rest

-- the number of bytes of the record that the bytes begin with, its length field included, if there is one
abbrev pub size_at : List ℕ → ℕ
size_at bytes = 8 + from_le_bytes w64 (take 8 bytes)

-- the bytes do not begin with a record and a gate
abbrev pub NoRecord : List ℕ → Type 0
NoRecord bytes = (r : LogRecord) (gate : ℕ) (rest : List ℕ) → IsRecord r → bytes ≡ record_bytes r ++ gate ∷ rest → ⊥

-- the gate at `at` is open, and no record and gate follow it
pub record Damaged (disk : List ℕ) (at : ℕ) : Type 0 where
  pub rest : List ℕ
  pub opened : drop at disk ≡ 1 ∷ rest
  pub none : NoRecord rest

-- the record of what a flush gave
abbrev pub record_is : FlushRecord → LogRecord
record_is flush = record { sets = flush.sets; name = flush.table; writes = flush.writes }

-- the bytes begin with this whole record, and a byte follows it
pub record FoundRecord (bytes : List ℕ) (r : LogRecord) : Type 0 where
  pub is : IsRecord r
  pub front : take (length (record_bytes r)) bytes ≡ record_bytes r
  pub more : length (record_bytes r) < length bytes

-- one step of a scan: the next record; or the end, at a gate that is not open, of a log that is owed nothing
abbrev pub StepIs : List ℕ → List LogRecord → ℕ → LogStep → Type 0
StepIs disk records len (Record scan flush) = Scanned disk (records ++ record_is flush ∷ []) scan.at × (scan.len ≡ len)
StepIs disk records len (Ended log) = ClosedLog records log.end disk

-- what was scanned is a prefix of the disk's log
abbrev pub ScannedIsFront : Type 0
ScannedIsFront = (disk : List ℕ) (records all : List LogRecord) (at end : ℕ) → Scanned disk records at → IsLog disk all end → (rest : List LogRecord) × (all ≡ records ++ rest)

-- a log of more than one byte is not damaged
abbrev pub LogIsWhole : Type 0
LogIsWhole = (disk : List ℕ) (records all : List LogRecord) (at end : ℕ) → 1 < length disk → IsLog disk all end → Scanned disk records at → Damaged disk at → ⊥

-- whatever the berth tells: what a step gives is a record
abbrev pub GivesRecord : LogStep → Type 0
GivesRecord (Record later flush) = IsRecord (record_is flush)
GivesRecord (Ended log) = ⊤

-- whatever the berth tells: a step passes at least one byte for each write, and stays below 2^63
abbrev pub ScansOn : ScanState → LogStep → Type 0
ScansOn scan (Record later flush) = (scan.at + length flush.writes < later.at) × (later.at < 2 ^ 63)
ScansOn scan (Ended log) = (log ≡ record { end = scan.at; owed = None; laid = false }) × (scan.at < 2 ^ 63)
