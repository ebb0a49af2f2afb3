-- A prefix of bytes that spells a list.
use Rattle.std.specs.Prelude.{ℕ, List, [], Option, Some, None}
use Rattle.row_model.specs.declared.rows.Cell.{Cell}
use Rattle.leaf_model.specs.Reading.{◌>>=◌, many_at, name_at, value_at}

-- the list that was read, without the bytes that follow; [] if none was read
abbrev pub front_of : {A : Type 0} → Option (List A × List ℕ) → List A
front_of None = []
front_of (Some read) = read.0

-- a name and its value; the name need not be above the one before
unfoldable pub any_cell_at : List ℕ → Option (Cell × List ℕ)
any_cell_at bytes = do
  name ← name_at bytes
  value ← value_at name.1
  Some (record { name = name.0; value = value.0 }, value.1)

-- n such cells
unfoldable pub any_cells_at : ℕ → List ℕ → Option (List Cell × List ℕ)
any_cells_at n bytes = many_at any_cell_at n bytes
