-- What a table is, and what its calls do to it.
use Rattle.std.specs.Prelude.{◌≡◌, ℕ, ◌+◌, ◌-◌, ◌<◌, ◌≤◌, ◌^◌, true, List, [], ◌∷◌, length, map, Option, Some, None, IfSome, Result, Ok, Err, ℤ, int_le}
use Rattle.std.specs.List.{AllByRecursion, flat_map}
use Rattle.std.specs.Ordering.{eq_by_cmp}
use Rattle.std.specs.Set.{distinct_count}
use Rattle.row_model.specs.declared.rows.Row.{Row}
use Rattle.leaf_model.specs.declared.writes.Write.{Write}
use Rattle.leaf_model.specs.declared.writes.Write.TheVariants.{Add, Expire, Keep}
use Rattle.row_model.specs.Values.{IsRow, IsTime}
use Rattle.leaf_model.specs.Content.{Contents, nothing, content_after, kept_count, late_count, removed_count}
use Rattle.row_blocks.specs.Blocks.{Block, IsBlock}
use Rattle.row_blocks.specs.Held.{IsSkip, columns_count, rows_and_cells, rows_held}
use Rattle.row_blocks.specs.Headings.{Heading, heading_cmp, heading_of}
use Rattle.row_records.specs.Records.{LogRecord}
use Rattle.row_records.specs.Pending.{with_push}
use Rattle.table_state.specs.declared.parts.Parts.{Parts}
use Rattle.table_state.specs.declared.fault.Added.{Added}
use Rattle.table_state.specs.declared.fault.AddFault.{AddFault}
use Rattle.table_state.specs.declared.fault.AddFault.TheVariants.{Full, NoMemory}

-- the most rows of a table
abbrev pub most_rows : ℕ
most_rows = 2 ^ 40

-- how the rows stand: sealed blocks, the number of rows cut off the first one, and after them the tail
pub record Store : Type 0 where
  pub blocks : List Block
  pub skip : ℕ
  pub tail : List Row

-- no blocks and no tail
abbrev pub no_store : Store
no_store = record { blocks = []; skip = 0; tail = [] }

-- the contents, the number of accepted writes, the pending record, and how the rows stand
pub record Table : Type 0 where
  pub contents : Contents
  pub writes : ℕ
  pub pending : Option LogRecord
  pub store : Store

-- the table, whichever way its rows stand
abbrev pub bare : Table → Table
bare t = record t { store = no_store }

-- a bound on its columns once the tail is sealed: those of the blocks, and for each row of the tail one, and one for
-- each of its cells
abbrev pub columns_most : Store → ℕ
columns_most s = columns_count s.blocks + rows_and_cells s.tail

-- the number of rows and cells that a write adds
abbrev pub added_by : Write → ℕ
added_by (Add rows) = rows_and_cells rows
added_by (Expire horizon) = 0
added_by (Keep n) = 0

abbrev pub added_count : List Write → ℕ
added_count [] = 0
added_count (w ∷ ws) = added_by w + added_count ws

-- tables that are handed on: what each is, and a bound on its columns
pub record HeldTables : Type 0 where
  pub each : List Table
  pub columns : List ℕ

-- a table without a write
abbrev pub empty_table : Table
empty_table = record { contents = nothing; writes = 0; pending = None; store = no_store }

-- one more accepted write, also in the pending record, under the name of the table
abbrev pub table_with_write : List ℕ → Table → Write → Table
table_with_write name t w = record { contents = content_after t.contents w; writes = t.writes + 1; pending = Some (with_push name w t.pending); store = no_store }

-- one more accepted write, which the disk has already
abbrev pub replayed : Table → Write → Table
replayed t w = record { contents = content_after t.contents w; writes = t.writes + 1; pending = t.pending; store = no_store }

-- a valid row at or after the horizon
abbrev pub IsHeldRow : ℤ → Row → Type 0
IsHeldRow horizon row = IsRow row × (int_le horizon row.time ≡ true)

-- contents of a table: at most 2^40 rows, none below the horizon
pub record IsHeld (c : Contents) : Type 0 where
  pub horizon : IsTime c.horizon
  pub few : length c.rows ≤ most_rows
  pub each : AllByRecursion (IsHeldRow c.horizon) c.rows

-- the invariant: the contents are valid, and blocks and tail hold exactly their rows
pub record IsStored (t : Table) : Type 0 where
  pub held : IsHeld t.contents
  pub skip : IsSkip t.store.skip t.store.blocks
  pub blocks : AllByRecursion IsBlock t.store.blocks
  pub tail : AllByRecursion IsRow t.store.tail
  pub short : length t.store.tail ≤ 65535
  pub rows : rows_held t.store.blocks t.store.tail t.store.skip t.contents.horizon ≡ t.contents.rows

-- a write may be called for: the name is the table's own, and the number of writes stays below 2^64
pub record MayWrite (name : List ℕ) (t : Table) : Type 0 where
  pub short : length name ≤ 255
  pub same : IfSome t.pending (λ r. r.name ≡ name)
  pub room : t.writes < 2 ^ 64 - 1

-- an add keeps the rows that are not late; Full exactly if there would be more than 2^40 rows; a refusal changes
-- nothing
abbrev pub Adds : List ℕ → Table → List Row → Result Added AddFault → Table → Type 0
Adds name t rows (Ok a) now = (length t.contents.rows + kept_count t.contents rows ≤ most_rows) × (a.kept ≡ kept_count t.contents rows) × (a.late ≡ late_count t.contents rows) × (bare now ≡ table_with_write name t (Add rows))
Adds name t rows (Err Full) now = (most_rows < length t.contents.rows + kept_count t.contents rows) × (now ≡ t)
Adds name t rows (Err NoMemory) now = now ≡ t

-- an expiry or a keep answers how many rows it removes; Err changes nothing
abbrev pub Removes : {E : Type 0} → List ℕ → Table → Write → Result ℕ E → Table → Type 0
Removes name t w (Ok n) now = (n ≡ removed_count t.contents w) × (bare now ≡ table_with_write name t w)
Removes name t w (Err e) now = now ≡ t

-- a write that the disk has already; Full exactly if there would be more than 2^40 rows; a refusal changes nothing
abbrev pub Replays : Table → Write → Result (Unit {0}) AddFault → Table → Type 0
Replays t w (Ok done) now = (length (content_after t.contents w).rows ≤ most_rows) × (bare now ≡ replayed t w)
Replays t w (Err Full) now = (most_rows < length (content_after t.contents w).rows) × (now ≡ t)
Replays t w (Err NoMemory) now = now ≡ t

-- the pending record is taken
abbrev pub Takes : Table → Option LogRecord → Table → Type 0
Takes t taken now = (taken ≡ t.pending) × (now ≡ record t { pending = None })

-- the tail is sealed; Err changes nothing
abbrev pub Seals : {E : Type 0} → Table → Result (Unit {0}) E → Table → Type 0
Seals t (Ok done) now = (bare now ≡ bare t) × (now.store.tail ≡ [])
Seals t (Err e) now = now ≡ t

-- the contents that parts stand for
abbrev pub contents_of_parts : Parts → Contents
contents_of_parts parts = record { rows = rows_held parts.blocks [] parts.skip parts.horizon; horizon = parts.horizon }

-- valid parts of a table
pub record IsParts (parts : Parts) : Type 0 where
  pub horizon : IsTime parts.horizon
  pub skip : IsSkip parts.skip parts.blocks
  pub blocks : AllByRecursion IsBlock parts.blocks
  pub few : length (rows_held parts.blocks [] parts.skip parts.horizon) ≤ most_rows

-- these are the parts of a table with an empty tail
pub record IsPartsOf (parts : Parts) (t : Table) : Type 0 where
  pub contents : contents_of_parts parts ≡ t.contents
  pub writes : parts.writes ≡ t.writes
  pub skip : parts.skip ≡ t.store.skip
  pub blocks : parts.blocks ≡ t.store.blocks
  pub tail : t.store.tail ≡ []

-- the heading of each cell of the rows
abbrev pub headings_in : List Row → List Heading
headings_in rows = flat_map (λ (row : Row). map heading_of row.cells) rows

-- the least number of columns of a table with these rows: none without rows, else one for the times and one for each
-- distinct heading
abbrev pub least_columns : List Row → ℕ
least_columns [] = 0
least_columns (row ∷ rows) = 1 + distinct_count (eq_by_cmp heading_cmp) (headings_in (row ∷ rows))
