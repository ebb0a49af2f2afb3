-- The shut tables of a leaf, as it holds them for its drain.
use Rattle.std.specs.Prelude.{◌≡◌, ◌+◌, ◌≤◌, ℕ, Bool, true, false, List, [], ◌∷◌, map, slice_get, Option, Some, None}
use Rattle.std.specs.List.{AllZip}
use Rattle.table_state.specs.declared.parts.Parts.{Parts}
use Rattle.row_blocks.specs.Held.{columns_count}
use Rattle.table_state.specs.Tables.{Table, added_count, bare, columns_most, contents_of_parts, no_store}
use Rattle.region_layout.specs.declared.drained.DrainTable.{DrainTable}
use Rattle.leaf_table.specs.Turns.{is_founded}
use Rattle.leaf_table.specs.Calls.{base_seen, state_seen}
use Rattle.leaf_steward.specs.Seated.{Seated, AtEach}

-- the table that parts make up, without a pending record
abbrev pub table_of_parts : Parts → Table
table_of_parts p = record { contents = contents_of_parts p; writes = p.writes; pending = None; store = no_store }

abbrev pub drained_table : DrainTable → Table
drained_table t = table_of_parts t.parts

-- these names and contents are those of the tables that a drain takes
pub record AreTablesOf (names : List (List ℕ)) (closed : List Table) (tables : List DrainTable) : Type 0 where
  pub names_are : map (λ (t : DrainTable). t.name) tables ≡ names
  pub closed_are : map drained_table tables ≡ closed

-- the names of the sealed tables, the contents of all, a bound on the columns of each, and whether the last is not
-- sealed yet
pub record ShutState : Type 0 where
  pub names : List (List ℕ)
  pub closed : List Table
  pub columns : List ℕ
  pub waits : Bool

-- no bound on a table's columns rose
abbrev pub AreNoMore : List ℕ → List ℕ → Type 0
AreNoMore now before = AllZip (λ (n m : ℕ). n ≤ m) now before

-- shut tables that are founded have at most one column for each row and each cell that their writes add, and the spare
-- ones
abbrev pub AreFewShut : Seated → List ℕ → Type 0
AreFewShut x columns = AtEach (λ place t v. is_founded (base_seen t) ≡ true → (n : ℕ) → slice_get columns place ≡ Some n → n ≤ (state_seen (base_seen t) v).spare + added_count (state_seen (base_seen t) v).writes) x

abbrev pub last_table : Option Table → List Table
last_table None = []
last_table (Some t) = bare t ∷ []

abbrev pub last_columns : Option Table → List ℕ
last_columns None = []
last_columns (Some t) = columns_most t.store ∷ []

-- the number of columns of each table
abbrev pub drained_columns : List DrainTable → List ℕ
drained_columns tables = map (λ (t : DrainTable). columns_count t.parts.blocks) tables

abbrev pub is_there : Option Table → Bool
is_there None = false
is_there (Some t) = true
