-- The record that a table's writes are gathered in.
use Rattle.std.specs.Prelude.{ℕ, ◌-◌, Bool, true, List, [], ◌∷◌, ◌++◌, length, take, Option, Some, None}
use Rattle.leaf_model.specs.declared.writes.Write.{Write}
use Rattle.row_records.specs.Records.{LogRecord, new_record, record_bytes}
use Rattle.row_records.specs.Reading.{record_of}

-- the bytes of a record and of a closed gate; none without a record
abbrev pub pending_bytes : Option LogRecord → List ℕ
pending_bytes None = []
pending_bytes (Some r) = record_bytes r ++ 0 ∷ []

-- whether the record's kind allows sets; true without a record
abbrev pub allows_sets : Option LogRecord → Bool
allows_sets None = true
allows_sets (Some r) = r.sets

-- how many writes are gathered
abbrev pub pending_count : Option LogRecord → ℕ
pending_count None = 0
pending_count (Some r) = length r.writes

-- the record in such bytes: all but the gate
abbrev pub pending_of : List ℕ → Option LogRecord
pending_of bytes = record_of (take (length bytes - 1) bytes)

-- one write more
abbrev pub with_write : Write → LogRecord → LogRecord
with_write write r = record r { writes = r.writes ++ write ∷ [] }

-- the record after a push; the first push makes it
abbrev pub with_push : List ℕ → Write → Option LogRecord → LogRecord
with_push table write None = new_record table (write ∷ [])
with_push table write (Some r) = with_write write r
