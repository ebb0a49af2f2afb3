-- Values that are looked up in rows.
use Rattle.std.specs.Prelude.{ℕ, List, [], ◌∷◌, ◌++◌, take, drop, map, ℤ, Bool, false, Option, Some, None, if◌then◌else◌, bytes_eq}
use Rattle.row_model.specs.declared.rows.Value.{Value}
use Rattle.row_model.specs.declared.rows.Value.TheVariants as values
use Rattle.row_model.specs.declared.rows.Cell.{Cell}
use Rattle.row_model.specs.declared.rows.Row.{Row}
use Rattle.leaf_model.specs.declared.looks.Sought.{Sought}
use Rattle.leaf_model.specs.declared.looks.Sought.TheVariants as sought
use Rattle.leaf_model.specs.declared.lent_cells.LentValue.{LentValue}
use Rattle.leaf_model.specs.Groups.{cell_value}
use Rattle.leaf_model.specs.Lent.{each_value}

-- the row's value of what is looked for
abbrev pub sought_in : Row → Sought → Option Value
sought_in row sought.Time = Some (values.Int row.time)
sought_in row (sought.Cell name) = cell_value name.now row.cells

-- what is known of it before any cell of the row was looked at: the time, or nothing
abbrev pub begun_one : ℤ → Sought → Option Value
begun_one time sought.Time = Some (values.Int time)
begun_one time (sought.Cell name) = None

abbrev pub looks_begun : ℤ → List Sought → List (Option Value)
looks_begun time all = map (begun_one time) all

-- whether a cell of that name is what is looked for
abbrev pub is_sought : Sought → List ℕ → Bool
is_sought sought.Time name = false
is_sought (sought.Cell other) name = bytes_eq other.now name

-- what is known of it after some more cells: what was known, else the value of the first cell of that name
abbrev pub filled_one : Sought → Option Value → List Cell → Option Value
filled_one s (Some value) cells = Some value
filled_one s None [] = None
filled_one s None (c ∷ cs) = if is_sought s c.name then Some c.value else filled_one s None cs

abbrev pub filled : List Sought → List (Option Value) → List Cell → List (Option Value)
filled [] values cells = []
filled (s ∷ ss) [] cells = []
filled (s ∷ ss) (v ∷ vs) cells = filled_one s v cells ∷ filled ss vs cells

-- what is known of all places after a cell and some others, if the first i places have had the cell already
abbrev pub filled_from : List Sought → List (Option LentValue) → ℕ → Cell → List Cell → List (Option Value)
filled_from all items i c others = filled (take i all) (each_value (take i items)) others ++ filled (drop i all) (each_value (drop i items)) (c ∷ others)
