-- A record of the log: the writes of one flush of a table.
use Rattle.std.specs.Prelude.{◌≡◌, ℕ, ◌<◌, ◌≤◌, ◌^◌, Bool, true, false, List, ◌∷◌, ◌++◌, length, IsUtf8}
use Rattle.std.specs.List.{flat_map, list_any, AllByRecursion}
use Rattle.row_model.specs.declared.rows.Value.{Value}
use Rattle.row_model.specs.declared.rows.Value.TheVariants.{Set}
use Rattle.row_model.specs.declared.rows.Cell.{Cell}
use Rattle.row_model.specs.declared.rows.Row.{Row}
use Rattle.leaf_model.specs.declared.writes.Write.TheVariants.{Add}
use Rattle.leaf_model.specs.declared.writes.Write.{Write}
use Rattle.leaf_model.specs.Writes.{IsWrite}
use Rattle.row_records.specs.declared.record_reader.Flush.{Flush}
use Rattle.leaf_model.specs.Bytes.{name_bytes, u64_bytes}
use Rattle.row_records.specs.Bytes.{write_bytes}

-- whether its kind allows sets, a table's name, and its writes, the first one first
pub record LogRecord : Type 0 where
  pub sets : Bool
  pub name : List ℕ
  pub writes : List Write

-- the record that is written of a table and its writes
abbrev pub new_record : List ℕ → List Write → LogRecord
new_record name writes = record { sets = true; name = name; writes = writes }

-- the number of a record's kind: 2 allows sets
abbrev pub record_kind : Bool → ℕ
record_kind false = 1
record_kind true = 2

-- the kind, the table's name, the number of writes, and the writes
abbrev pub record_body : LogRecord → List ℕ
record_body r = record_kind r.sets ∷ (name_bytes r.name ++ u64_bytes (length r.writes) ++ flat_map write_bytes r.writes)

-- ---- sets in it

-- whether a value is a set
abbrev pub is_set_value : Value → Bool
is_set_value (Set members) = true
is_set_value other = false

-- whether a cell of a row holds a set
abbrev pub row_has_set : Row → Bool
row_has_set row = list_any (λ (c : Cell). is_set_value c.value) row.cells

-- whether a write adds a row with a set
abbrev pub has_set : Write → Bool
has_set (Add rows) = list_any row_has_set rows
has_set other = false

-- whether one of the writes adds a row with a set
abbrev pub has_sets : List Write → Bool
has_sets writes = list_any has_set writes

-- a record as bytes: the length of its body, and the body
abbrev pub record_bytes : LogRecord → List ℕ
record_bytes r = u64_bytes (length (record_body r)) ++ record_body r

-- a record has a name of at most 255 bytes of UTF-8, one write at least, numbers that fit, and sets only if its kind
-- allows them
pub record IsRecord (r : LogRecord) : Type 0 where
  pub name : IsUtf8 r.name
  pub short : length r.name ≤ 255
  pub some : 0 < length r.writes
  pub count : length r.writes < 2 ^ 64
  pub each : AllByRecursion IsWrite r.writes
  pub plain : r.sets ≡ false → has_sets r.writes ≡ false
  pub whole : length (record_body r) < 2 ^ 64

-- a name and writes as one record of a kind
abbrev pub flush_of : Bool → List ℕ × List Write → LogRecord
flush_of sets flush = record { sets = sets; name = flush.0; writes = flush.1 }

-- the record that was read
abbrev pub record_read : Flush → LogRecord
record_read flush = record { sets = flush.sets; name = flush.name; writes = flush.writes }
