-- What settling an owed record does to each pair that a crash may leave.
use Rattle.std.specs.Prelude.{◌≡◌, ◌⊎◌, ℕ, ◌+◌, List, [], ◌∷◌, ◌++◌, length, Bool, true, false, Option, Some, None, Result, OnOk, OnErr, bytes_eq, if◌then◌else◌}
use Rattle.std.specs.List.{AllByRecursion}
use Rattle.leaf_model.specs.declared.writes.Write.{Write}
use Rattle.row_records.specs.Records.{LogRecord, IsRecord}
use Rattle.row_records.specs.Pending.{pending_bytes}
use Rattle.berth_face.specs.Berth.{Pair, Meaning, IsClosed}
use Rattle.berth_face.specs.Moments.{EachNow, Throughout}
use Rattle.disk_backup.specs.Logs.{ClosedLog, open_records, writes_of}
use Rattle.disk_backup.specs.State.{LogState}

-- these records, a gate of any kind at `end`, and after it the next record with a closed gate
pub record LaidLog (records : List LogRecord) (next : LogRecord) (end : ℕ) (disk : List ℕ) : Type 0 where
  pub gate : ℕ
  pub rest : List ℕ
  pub each : AllByRecursion IsRecord records
  pub next_is : IsRecord next
  pub is : disk ≡ open_records records ++ gate ∷ (pending_bytes (Some next) ++ rest)
  pub end_is : end ≡ length (open_records records)

-- a disk of these records, by the record that is owed and whether it is laid
abbrev pub HoldsOwing : Option LogRecord → Bool → ℕ → List LogRecord → List ℕ → Type 0
HoldsOwing None laid end records disk = ClosedLog records end disk
HoldsOwing (Some next) false end records disk = ClosedLog records end disk × IsRecord next
HoldsOwing (Some next) true end records disk = LaidLog records next end disk

-- a disk that holds the log of these records: they end at the log's end, and a record that is owed and laid follows
abbrev pub HoldsLog : LogState → List LogRecord → List ℕ → Type 0
HoldsLog log records disk = HoldsOwing log.owed log.laid log.end records disk

-- the records with what is owed
abbrev pub with_owed : Option LogRecord → List LogRecord → List LogRecord
with_owed None records = records
with_owed (Some next) records = records ++ next ∷ []

-- where the log ends with the record that is owed: after a gate and the record
abbrev pub end_with : LogState → ℕ
end_with log = log.end + length (pending_bytes log.owed)

-- the log with what is owed
abbrev pub WithOwed : LogState → List LogRecord → List ℕ → Type 0
WithOwed log records disk = ClosedLog (with_owed log.owed records) (end_with log) disk

-- the log with or without what is owed
abbrev pub WithOrWithout : LogState → List LogRecord → List ℕ → Type 0
WithOrWithout log records disk = ClosedLog records log.end disk ⊎ WithOwed log records disk

-- The pair comes from an earlier one. Its region is the same or closed. Whichever records the earlier disk held as the
-- log had it, its disk is as `after` says of these. The disks that a crash may leave may hold different records.
pub record Comes (log : LogState) (after : List LogRecord → List ℕ → Type 0) (old : Meaning) (p : Pair) : Type 0 where
  pub from : Pair
  pub before : old.leaves old.clock from
  pub region : (p.region ≡ from.region) ⊎ IsClosed p.region
  pub disk : (records : List LogRecord) → HoldsLog log records from.disk → after records p.disk

-- what settling does, if the berth tells its contents
pub record Settled {T E : Type 0} (log later : LogState) (result : Result T E) (old new : Meaning) : Type 0 where
  -- at every moment a crash leaves the log with or without what was owed
  pub moments : Throughout (Comes log (WithOrWithout log) old) old new
  -- then every crash leaves it with what was owed
  pub ok : OnOk result (EachNow (Comes log (WithOwed log) old) new)
  -- or the record is still owed, and the next call goes on
  pub err : OnErr result (EachNow (Comes log (HoldsLog later) old) new)

-- ---- where each disk that a crash may leave has the same log

-- the writes of each name with those of what is owed
abbrev pub with_writes : Option LogRecord → (List ℕ → List Write) → List ℕ → List Write
with_writes None writes name = writes name
with_writes (Some r) writes name = if bytes_eq name r.name then writes name ++ r.writes else writes name

-- the disk's log has these writes for each name, and ends here at a gate that is not open
abbrev pub HasLog : (List ℕ → List Write) → ℕ → List ℕ → Type 0
HasLog writes end disk = (records : List LogRecord) × ClosedLog records end disk × ((name : List ℕ) → writes_of name records ≡ writes name)

-- Each disk that a crash may leave now holds the same log, with these writes for each name. It ends at a gate that is
-- not open until the owed record is laid; then that record follows its end.
abbrev pub HaveLog : LogState → (List ℕ → List Write) → Meaning → Type 0
HaveLog log writes m = EachNow (λ p. (records : List LogRecord) × HoldsLog log records p.disk × ((name : List ℕ) → writes_of name records ≡ writes name)) m

pub record KeepsLog {T E : Type 0} (log later : LogState) (writes : List ℕ → List Write) (result : Result T E) (old new : Meaning) : Type 0 where
  -- at every moment a crash leaves that log with or without what was owed
  pub moments : Throughout (λ p. HasLog writes log.end p.disk ⊎ HasLog (with_writes log.owed writes) (end_with log) p.disk) old new
  -- then every crash leaves it with what was owed
  pub ok : OnOk result (EachNow (λ p. HasLog (with_writes log.owed writes) (end_with log) p.disk) new)
  -- or each disk still has it, and the next call goes on
  pub err : OnErr result (HaveLog later writes new)
