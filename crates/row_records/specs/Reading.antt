-- Reading a record from left to right. Each field is a value and the bytes after it, or None.
use Rattle.std.specs.Prelude.{false, true, ◌≡◌, ℕ, zero, suc, List, [], ◌∷◌, length, Bool, ◌==◌, nat_lt, if◌then◌else◌, Option, Some, None, option_map, Result, Ok, Err}
use Rattle.std.specs.Int.{w32, w64}
use Rattle.row_model.specs.declared.rows.Cell.{Cell}
use Rattle.leaf_model.specs.declared.writes.Write.{Write}
use Rattle.leaf_model.specs.declared.writes.Write.TheVariants.{Add, Expire, Keep}
use Rattle.leaf_model.specs.Reading.{◌>>=◌, many_at, number_at, name_at, time_at, rows_at}
use Rattle.row_records.specs.Records.{LogRecord, flush_of, has_sets}
use Rattle.row_records.specs.declared.fault.ReadError.{ReadError}
use Rattle.row_records.specs.declared.fault.ReadError.TheVariants as errors

-- Err: memory ran out, or reading gives None
abbrev pub ReadFails : {Y : Type 0} → ReadError → Option Y → Type 0
ReadFails errors.Memory read = Unit {0}
ReadFails errors.Broken read = read ≡ None

-- the result, seen by view, is what reading gives, unless memory ran out
abbrev pub ReadsAs : {X Y : Type 0} → (X → Y) → Result X ReadError → Option Y → Type 0
ReadsAs view (Ok x) read = read ≡ Some (view x)
ReadsAs view (Err e) read = ReadFails e read

-- the same for a function that takes no memory
abbrev pub FindsView : {X Y : Type 0} → (X → Y) → Option X → Option Y → Type 0
FindsView view (Some x) read = read ≡ Some (view x)
FindsView view None read = read ≡ None

-- the bytes after what was read
abbrev pub bytes_left_after : {A : Type 0} → Option (A × List ℕ) → Option (List ℕ)
bytes_left_after read = option_map (λ x. x.1) read

-- the name of a cell, and what follows the cell
abbrev pub name_and_rest : Option (Cell × List ℕ) → Option (List ℕ × List ℕ)
name_and_rest read = option_map (λ x. (x.0.name, x.1)) read

-- the number of rows, at most 100,000, and the rows
unfoldable pub add_at : List ℕ → Option (Write × List ℕ)
add_at bytes = do
  count ← number_at w32 bytes
  if nat_lt 100000 count.0 then None else (rows_at count.0 count.1 >>= λ rows. Some (Add rows.0, rows.1))

-- a write: rows after a 1, a horizon after a 2, how many rows to keep after a 3
unfoldable pub write_at : List ℕ → Option (Write × List ℕ)
write_at [] = None
write_at (zero ∷ rest) = None
write_at (suc zero ∷ rest) = add_at rest
write_at (suc (suc zero) ∷ rest) = do
  horizon ← time_at rest
  Some (Expire horizon.0, horizon.1)
write_at (suc (suc (suc zero)) ∷ rest) = do
  n ← number_at w64 rest
  Some (Keep n.0, n.1)
write_at (suc (suc (suc (suc b))) ∷ rest) = None

-- n writes
unfoldable pub writes_at : ℕ → List ℕ → Option (List Write × List ℕ)
writes_at n bytes = many_at write_at n bytes

-- the name, the number of writes and the writes
unfoldable pub flush_at : List ℕ → Option ((List ℕ × List Write) × List ℕ)
flush_at bytes = do
  name ← name_at bytes
  count ← number_at w64 name.1
  if count.0 == 0 then None else (writes_at count.0 count.1 >>= λ writes. Some ((name.0, writes.0), writes.1))

-- the record of a flush that takes all of the bytes
unfoldable pub whole_at : Bool → List ℕ → Option LogRecord
whole_at sets bytes = do
  flush ← flush_at bytes
  if length flush.1 == 0 then Some (flush_of sets flush.0) else None

-- what follows the length of a record: its kind, then its flush; a record of kind 1 has no sets
unfoldable pub body_of : List ℕ → Option LogRecord
body_of [] = None
body_of (zero ∷ rest) = None
body_of (suc zero ∷ rest) = do
  r ← whole_at false rest
  if has_sets r.writes then None else Some r
body_of (suc (suc zero) ∷ rest) = whole_at true rest
body_of (suc (suc (suc b)) ∷ rest) = None

-- the record that all of the bytes are
unfoldable pub record_of : List ℕ → Option LogRecord
record_of bytes = do
  len ← number_at w64 bytes
  if len.0 == length len.1 then body_of len.1 else None
